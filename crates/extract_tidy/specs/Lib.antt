pub mod Tidy
pub mod Parts
