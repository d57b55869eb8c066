pub mod Numerals
pub mod Places
pub mod Scripts
