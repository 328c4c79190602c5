pub mod Splitting
pub mod Hexing
pub mod Storing
pub mod Spreading
