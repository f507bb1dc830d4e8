pub mod Zips
pub mod Insides
pub mod SplitParts
pub mod Partition
pub mod Fewer
pub mod SideParts
pub mod Few
