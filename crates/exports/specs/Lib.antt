pub mod Results
pub mod Sheets
