pub mod Stop
pub mod Run
pub mod Inner
