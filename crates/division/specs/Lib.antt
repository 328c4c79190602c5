pub mod Division
pub mod Answers
pub mod Parts
