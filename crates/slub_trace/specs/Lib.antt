pub mod Classes
pub mod Names
pub mod Ranges
pub mod Sound
pub mod Kinds
