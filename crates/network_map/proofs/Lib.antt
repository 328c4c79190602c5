pub mod Made
pub mod Crossing
