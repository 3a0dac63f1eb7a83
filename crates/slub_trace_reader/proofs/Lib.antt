pub mod ClassNames
pub mod ClientTexts
pub mod Fields
mod Fronts
pub mod LineTexts
pub mod LinesBelow
pub mod Readable
pub mod Runs
pub mod Places
mod QuickLines
pub mod ReadingLaws
pub mod Readings
pub mod Reasons
pub mod Soundness
pub mod Texts
pub mod WordTexts
pub mod WrittenWords
mod Drawn
mod Events
mod Frees
mod LoadFronts
mod Long
mod Made
mod Numbered
mod Sound
mod WhoFrees
