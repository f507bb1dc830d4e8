mod Written
mod Forms
mod Digits
mod One
mod Uses
mod Asked
