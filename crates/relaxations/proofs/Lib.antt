pub mod FirstOther
pub mod Pairs
pub mod Schedules
