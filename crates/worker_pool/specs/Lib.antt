pub mod Found
pub mod Halfway
