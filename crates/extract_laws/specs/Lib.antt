pub mod Divisor
pub mod Extract
pub mod Run
pub mod Meaning
