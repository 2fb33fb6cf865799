pub mod Words
pub mod LineSteps
pub mod WholeTexts
pub mod OneReading
