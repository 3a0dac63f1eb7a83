pub mod Offsets
pub mod Gifts
pub mod Locks
pub mod Calls
pub mod AtOnce
