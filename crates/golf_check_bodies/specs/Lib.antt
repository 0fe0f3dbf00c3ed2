pub mod Spines
pub mod CheckerClauses
