pub mod Words
pub mod Values
pub mod Absorbing
pub mod Sorting
pub mod Members
pub mod Placing
pub mod Chains
