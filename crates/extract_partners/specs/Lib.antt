pub mod Removal
pub mod Table
