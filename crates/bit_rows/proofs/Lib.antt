pub mod Facts
pub mod Bits
pub mod Rows
