pub mod Numbers
pub mod Live
pub mod Cuts
pub mod Groups
pub mod Provable
pub mod Tuples
