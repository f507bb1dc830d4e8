pub mod Families
pub mod Choices
pub mod Least
pub mod Roots
pub mod Often
