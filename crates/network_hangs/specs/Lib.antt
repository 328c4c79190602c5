pub mod Hangs
pub mod Parts
