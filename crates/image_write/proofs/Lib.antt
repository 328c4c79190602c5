pub mod Laying
pub mod Following
pub mod Telling
pub mod Again
