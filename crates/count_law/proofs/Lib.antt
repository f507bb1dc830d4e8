pub mod Counting
pub mod CutNodes
pub mod OneCut
pub mod CutCounts
pub mod Dependence
pub mod Simulating
pub mod SeenLeaf
pub mod Observing
