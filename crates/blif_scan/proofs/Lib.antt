pub mod Scanning
pub mod Numerals
pub mod Heading
