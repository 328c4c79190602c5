pub mod Walking
pub mod Texts
pub mod Renewing
pub mod Again
pub mod Numbered
