pub mod Lanes
pub mod Named
