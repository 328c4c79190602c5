pub mod Opening
pub mod Testing
pub mod Cases
pub mod Texts
pub mod Blif
