pub mod CycleSteps
pub mod CycleRuns
