pub mod Answered
pub mod Event
pub mod Pokes
pub mod Round
pub mod Contents
pub mod Law
pub mod Laws
pub mod Ran
