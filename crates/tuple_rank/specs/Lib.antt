pub mod Choices
pub mod Tuples
pub mod Triangle
