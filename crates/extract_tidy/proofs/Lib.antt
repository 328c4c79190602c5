pub mod Arranged
pub mod Laid
pub mod Numbered
