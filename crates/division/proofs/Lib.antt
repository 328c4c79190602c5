pub mod Listing
pub mod Quotients
pub mod Dividing
pub mod Making
pub mod Refusing
pub mod Whole
pub mod Answering
