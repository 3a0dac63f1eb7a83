pub mod Takes
pub mod Lives
pub mod Naming
pub mod Peels
