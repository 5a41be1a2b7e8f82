pub mod ClockSignals
pub mod ClockTransfers
