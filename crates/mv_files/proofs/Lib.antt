pub mod ToldLemmas
pub mod Reading
pub mod SendingLemmas
pub mod WritingWhole
pub mod Places
pub mod Writing
