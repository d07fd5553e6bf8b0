pub mod Bands
pub mod Bounds
pub mod Clear
pub mod ClearParts
pub mod CountSums
mod Examples
pub mod FewEntries
pub mod Fits
pub mod ListsBelow
pub mod LoadCells
pub mod NamesFit
pub mod NoCrossFault
pub mod OneAnswer
pub mod OwnMultiples
pub mod OwnReading
pub mod OwnRounding
pub mod Places
pub mod RiskNumbers
pub mod RiskPlaces
pub mod RootNumbers
pub mod RunLengths
mod SeenLemmas
pub mod Weights
