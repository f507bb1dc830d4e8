pub mod Names
pub mod Digests
pub mod Chains
