pub mod Lists
pub mod Literal
pub mod Sets
pub mod Meaning
pub mod Masks
pub mod Word
