pub mod Verdict
pub mod Lits
