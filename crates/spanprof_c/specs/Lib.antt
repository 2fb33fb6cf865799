pub mod Documents
pub mod Programs
pub mod Refusals
pub mod Runs
pub mod Steps
pub mod Told
