pub mod Exclusion
pub mod Marking
pub mod Lines
pub mod Verdicts
