pub mod Sitting
pub mod Told
pub mod Parts
pub mod Ready
pub mod Begins
