pub mod Keeping
pub mod Filling
