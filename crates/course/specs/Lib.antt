pub mod Sheets
pub mod Questions
