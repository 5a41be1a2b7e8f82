pub mod CycleComputers
