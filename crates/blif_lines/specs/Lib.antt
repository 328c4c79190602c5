pub mod Marking
pub mod Lining
