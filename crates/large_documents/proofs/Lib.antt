pub mod Handing
mod Members
mod OneAccount
mod OneChange
mod OneFault
mod OnePath
pub mod OneRest
mod SomeAccount
mod SomeFault
mod SomeVerdict
mod ListSteps
mod ListWords
mod OneList
mod PlaceCounts
mod PlaceGrowth
mod PlaceWords
mod PlaceRows
mod PlaceParts
mod OnePlaces
mod PlaceTimes
