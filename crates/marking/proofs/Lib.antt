pub mod Blocks
pub mod Following
pub mod Keys
pub mod Telling
