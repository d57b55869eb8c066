pub mod LineLaws
pub mod Numerals
pub mod Counting
