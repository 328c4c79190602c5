pub mod Widths
pub mod Renumber
pub mod Image
pub mod Reading
pub mod Layout
pub mod Meaning
