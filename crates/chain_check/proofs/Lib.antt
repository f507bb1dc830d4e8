pub mod Masks
pub mod Fronts
pub mod Tables
