pub mod Counts
pub mod Layouts
pub mod Noted
pub mod Oldest
pub mod Places
pub mod Sound
pub mod Unique
pub mod Views
