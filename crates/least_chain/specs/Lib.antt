pub mod LeastFirst
pub mod Waiting
