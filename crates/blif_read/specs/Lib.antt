pub mod Defining
pub mod Building
pub mod Reading
