pub mod Marking
pub mod Reading
pub mod Finding
pub mod Hanging
pub mod Answering
