pub mod Numbers
pub mod Places
pub mod Cones
pub mod Wires
