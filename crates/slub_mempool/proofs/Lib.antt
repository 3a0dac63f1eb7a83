pub mod Freeing
pub mod Keeping
pub mod Making
pub mod Serving
pub mod Spots
