pub mod Slabs
pub mod Fits
pub mod Turns
