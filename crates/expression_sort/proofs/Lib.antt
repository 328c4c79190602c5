pub mod Sinking
