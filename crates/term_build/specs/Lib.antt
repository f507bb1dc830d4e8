pub mod Leaves
pub mod InputTerms
pub mod GateTerms
pub mod SourceTerms
pub mod TermInstance
pub mod Laws
pub mod Numbering
pub mod Building
