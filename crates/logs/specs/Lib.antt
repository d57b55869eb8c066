pub mod Log
pub mod Conversion
