pub mod Numerals
pub mod NumberLists
pub mod LineForms
pub mod OneLine
pub mod Following
pub mod OneOutcome
pub mod ReadLines
pub mod WrittenLines
