pub mod DueOnce
pub mod Folds
pub mod Ranges
pub mod Listing
pub mod Finding
pub mod ByCells
pub mod Cells
