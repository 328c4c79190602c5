pub mod Keep
pub mod Parts
