pub mod Closing
pub mod Walking
pub mod Exactly
pub mod Steps
pub mod Telling
