pub mod Words
pub mod Numbers
pub mod Reading
pub mod Meaning
