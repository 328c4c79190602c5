pub mod Replace
pub mod Parts
