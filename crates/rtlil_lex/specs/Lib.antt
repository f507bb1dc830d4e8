pub mod Bytes
pub mod Strings
pub mod Forms
pub mod Tokens
pub mod Next
