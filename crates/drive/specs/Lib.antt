pub mod Nets
pub mod Rooms
pub mod Wire
