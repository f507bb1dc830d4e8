pub mod Lists
pub mod Marks
pub mod State
pub mod Shown
pub mod Chosen
pub mod Spread
pub mod Losing
pub mod Tally
