pub mod TimeLines
pub mod TimesTexts
pub mod Reading
pub mod OneReading
