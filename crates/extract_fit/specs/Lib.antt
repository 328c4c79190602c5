pub mod Fitness
pub mod Parts
