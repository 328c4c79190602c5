pub mod Chains
pub mod Holding
pub mod Table
pub mod Changing
pub mod Entering
