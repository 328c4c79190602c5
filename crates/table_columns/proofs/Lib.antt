pub mod Counting
pub mod Bytes
pub mod Standing
pub mod Reaching
pub mod Fitting
pub mod Faults
pub mod Pointing
