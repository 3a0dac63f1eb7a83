pub mod Opening
pub mod Rests
pub mod Table
pub mod Laws
pub mod Closing
pub mod Bounded
pub mod BoundLaws
