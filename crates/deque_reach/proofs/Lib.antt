pub mod Weights
pub mod Kept
pub mod Reached
pub mod Rowed
pub mod Made
pub mod Drained
pub mod Each
