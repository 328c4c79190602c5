pub mod Reading
pub mod Kinding
