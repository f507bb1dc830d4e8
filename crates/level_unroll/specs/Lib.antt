pub mod Queue
pub mod Shown
pub mod Lines
