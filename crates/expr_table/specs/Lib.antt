pub mod Term
pub mod Table
pub mod Interning
pub mod Steps
pub mod Gates
pub mod Values
pub mod Instance
