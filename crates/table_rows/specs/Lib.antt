pub mod Lines
pub mod Meaning
pub mod Answers
pub mod Parts
