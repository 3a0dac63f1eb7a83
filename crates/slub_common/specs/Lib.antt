pub mod Times
pub mod Numbers
pub mod Lines
pub mod Names
