pub mod Counting
pub mod Lines
pub mod Exploring
pub mod Finding
pub mod Outputs
pub mod Printing
