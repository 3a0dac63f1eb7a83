pub mod Words
pub mod Stored
