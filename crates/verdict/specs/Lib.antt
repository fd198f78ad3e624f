pub mod Answers
pub mod Counting
pub mod Verdicts
