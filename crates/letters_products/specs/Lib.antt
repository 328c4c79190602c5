pub mod Products
pub mod Spelled
