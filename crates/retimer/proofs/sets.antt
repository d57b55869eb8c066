-- The laws of sets of configurations.
pub mod RowLaws
pub mod Bounding
pub mod Tables
pub mod Adding
pub mod Closing
pub mod Filling
pub mod Waiting
pub mod Joining
pub mod Firing
pub mod Parts
pub mod Setting
pub mod Stepping
pub mod Lines
pub mod Counting
pub mod Landing
pub mod Beginning
pub mod Meeting
