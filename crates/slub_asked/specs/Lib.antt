pub mod Stop
pub mod Asked
pub mod Ending
