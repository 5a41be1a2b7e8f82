pub mod ClockComputers
