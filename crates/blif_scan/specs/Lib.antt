pub mod Scanning
pub mod Heading
