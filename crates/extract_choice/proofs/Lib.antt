pub mod Weights
pub mod Counting
pub mod Leading
pub mod Deciding
