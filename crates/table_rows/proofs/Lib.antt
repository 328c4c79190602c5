pub mod Covering
pub mod Cubing
pub mod Writing
pub mod Settings
