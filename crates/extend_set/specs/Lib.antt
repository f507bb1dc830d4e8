pub mod Hull
pub mod Growth
