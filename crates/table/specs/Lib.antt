pub mod Table
pub mod Numbered
pub mod Written
pub mod Rows
pub mod Meaning
pub mod Answers
pub mod Parts
