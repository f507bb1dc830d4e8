pub mod Views
pub mod Seats
pub mod Tries
pub mod Takes
pub mod Gives
pub mod Dealt
pub mod Gathers
