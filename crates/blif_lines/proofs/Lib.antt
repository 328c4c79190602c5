pub mod Marking
pub mod Lining
pub mod Rowing
pub mod Windows
