pub mod Taking
pub mod Copying
pub mod Placing
pub mod Renumbering
