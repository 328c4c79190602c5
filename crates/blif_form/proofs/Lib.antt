pub mod Ending
pub mod Blocking
pub mod Passing
pub mod Columns
pub mod Taking
pub mod Surveying
pub mod Whole
