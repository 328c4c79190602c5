pub mod Cokernels
pub mod Meaning
pub mod Answers
pub mod Parts
