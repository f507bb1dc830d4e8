pub mod Tried
pub mod Balanced
pub mod Given
pub mod Joined
pub mod Begun
pub mod Kept
