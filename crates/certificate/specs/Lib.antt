pub mod Lines
pub mod Certificates
pub mod Parts
pub mod Reading
