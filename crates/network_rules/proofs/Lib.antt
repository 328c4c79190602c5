pub mod Ruling
