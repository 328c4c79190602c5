pub mod Becoming
pub mod Answering
pub mod Keeping
