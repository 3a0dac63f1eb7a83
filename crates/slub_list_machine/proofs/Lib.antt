pub mod Gathering
pub mod Laying
pub mod Opening
pub mod Places
pub mod Undoing
