pub mod Splits
pub mod Entries
pub mod Saying
pub mod Options
pub mod Asking
pub mod Walking
pub mod Making
pub mod Retelling
