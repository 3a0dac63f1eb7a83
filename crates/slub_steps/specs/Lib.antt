pub mod Counted
pub mod Inner
pub mod Live
pub mod Rounds
pub mod Run
pub mod Sayers
pub mod Written
