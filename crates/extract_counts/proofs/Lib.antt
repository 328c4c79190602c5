pub mod Turning
pub mod Gaining
pub mod Netting
pub mod Arranged
