pub mod Checks
pub mod Records
pub mod Rest
pub mod Answers
pub mod Refusals
pub mod Words
pub mod Reversal
pub mod Soundness
