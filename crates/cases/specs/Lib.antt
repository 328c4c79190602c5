pub mod Tests
pub mod Cases
pub mod Meaning
pub mod Texts
pub mod Blif
