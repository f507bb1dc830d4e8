-- Definitions that only contracts of private functions cite.
pub mod Parts
pub mod Seen
pub mod Cursor
pub mod Reading
