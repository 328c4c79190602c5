pub mod Taking
pub mod Going
pub mod Starting
pub mod Telling
