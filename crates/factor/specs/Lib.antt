pub mod Form
pub mod Text
pub mod Parts
pub mod Meaning
