pub mod Lone
pub mod Told
pub mod Begun
pub mod Fresh
