pub mod Variables
pub mod LoopSteps
pub mod LoopReading
