pub mod Formula
pub mod Cells
pub mod Names
