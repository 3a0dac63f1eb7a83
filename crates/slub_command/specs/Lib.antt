pub mod Arguments
pub mod Command
pub mod Options
pub mod Spelling
