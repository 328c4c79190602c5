pub mod Report
pub mod Weights
pub mod Parts
