pub mod Causing
pub mod EachShare
pub mod Premises
pub mod Steps
pub mod OneNetlist
