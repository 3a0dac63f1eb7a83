pub mod Changes
pub mod CallKinds
pub mod Steps
pub mod Classes
pub mod Leaves
pub mod Turns
pub mod Opened
