pub mod Lines
pub mod Offers
pub mod Told
pub mod Windows
