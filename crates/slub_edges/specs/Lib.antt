pub mod Edges
pub mod Memory
pub mod Adapters
pub mod Reading
pub mod Pieces
pub mod Window
