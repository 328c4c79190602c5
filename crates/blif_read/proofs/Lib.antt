pub mod Tallying
pub mod Counting
pub mod Summing
pub mod Telling
pub mod Building
pub mod Finding
pub mod Putting
