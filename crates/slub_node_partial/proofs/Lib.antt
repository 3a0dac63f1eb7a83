pub mod Gathered
pub mod Gaps
pub mod Members
pub mod Orders
pub mod Promotions
pub mod Removals
