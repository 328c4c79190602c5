pub mod Ends
pub mod Lining
pub mod Blanks
pub mod Spans
pub mod Parting
