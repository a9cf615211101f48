pub mod Counts
pub mod Credit
pub mod Making
pub mod RateZero
pub mod Records
pub mod RecordsInSlots
pub mod RecordsLimits
pub mod Waits
