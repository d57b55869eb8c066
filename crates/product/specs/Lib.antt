pub mod Encoding
pub mod Product
pub mod Rows
pub mod Joining
pub mod Example
