pub mod Words
pub mod Expression
pub mod Value
pub mod Answers
