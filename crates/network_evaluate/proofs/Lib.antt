pub mod Settling
pub mod Answering
