pub mod Letters
pub mod Laid
pub mod Told
pub mod Meaning
