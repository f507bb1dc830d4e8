pub mod Tables
pub mod Waiting
pub mod Turns
