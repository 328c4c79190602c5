pub mod Forms
pub mod Columns
pub mod Meaning
pub mod Parts
