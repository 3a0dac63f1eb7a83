pub mod Lists
pub mod Times
pub mod Sums
pub mod Writes
pub mod Digits
