pub mod Closing
pub mod Stages
pub mod Outcome
pub mod Sound
pub mod Chains
pub mod Entries
