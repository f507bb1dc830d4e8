pub mod RunSets
pub mod Greedy
pub mod Growing
pub mod Hulls
