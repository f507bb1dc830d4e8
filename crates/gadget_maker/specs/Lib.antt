pub mod Gadget
pub mod Listed
