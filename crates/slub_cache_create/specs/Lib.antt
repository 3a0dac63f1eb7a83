pub mod Create
pub mod Drop
pub mod Fields
pub mod Merging
pub mod Sound
pub mod Table
pub mod Tune
