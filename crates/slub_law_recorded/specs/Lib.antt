pub mod Paired
pub mod Replay
pub mod Recorded
