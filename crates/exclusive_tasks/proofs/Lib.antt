pub mod UnderWay
pub mod Overlaps
pub mod LogLines
pub mod OneVerdict
