pub mod Aligned
pub mod FreeRuns
pub mod MarkedFrames
pub mod Histories
pub mod Steps
pub mod RunOrders
pub mod Descents
pub mod Refreshes
