pub mod Naming
pub mod Giving
