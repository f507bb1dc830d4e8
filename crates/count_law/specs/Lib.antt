pub mod Counts
pub mod RowCounts
pub mod CutRows
pub mod Simulation
pub mod Instances
pub mod Netlists
