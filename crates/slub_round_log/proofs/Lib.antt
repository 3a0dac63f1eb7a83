pub mod Places
pub mod Ending
pub mod Choosing
pub mod Heard
pub mod Written
pub mod OneTurn
pub mod Rounds
