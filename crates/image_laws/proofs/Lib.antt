pub mod NewNumbers
pub mod Renumbering
pub mod Fielding
pub mod Reading
pub mod Judging
pub mod Meeting
pub mod Refusing
pub mod Trips
