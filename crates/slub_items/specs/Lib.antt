pub mod Ids
pub mod Leaves
pub mod Lines
pub mod Parts
pub mod Stopped
pub mod Watched
