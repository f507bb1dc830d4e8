pub mod Least
pub mod Parents
pub mod Waits
pub mod Turns
