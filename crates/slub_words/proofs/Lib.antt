pub mod Fields
pub mod Pointers
pub mod Stored
