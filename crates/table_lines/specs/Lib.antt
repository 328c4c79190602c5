pub mod Text
pub mod Meaning
