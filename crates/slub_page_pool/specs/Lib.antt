pub mod FreeFrames
pub mod Block
pub mod Marks
pub mod History
pub mod Orders
