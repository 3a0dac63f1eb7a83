pub mod Told
pub mod Choices
pub mod Log
pub mod Laws
