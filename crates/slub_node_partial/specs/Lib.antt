pub mod Gathering
pub mod PartialList
pub mod Promotion
pub mod Window
