pub mod Below
pub mod Taking
pub mod Chains
