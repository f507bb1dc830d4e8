pub mod Netlist
pub mod Known
pub mod Seen
pub mod Laws
