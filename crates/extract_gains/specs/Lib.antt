pub mod Gains
pub mod Parts
