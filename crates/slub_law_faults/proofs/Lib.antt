pub mod Sorted
pub mod Groups
pub mod Rows
pub mod Faults
