pub mod Bounds
pub mod Names
pub mod Orders
pub mod PowersOfTwo
pub mod Slots
pub mod Unique
