pub mod Texts
pub mod Laws
pub mod Words
pub mod OneText
pub mod Parts
pub mod Ends
pub mod Pairs
pub mod Given
