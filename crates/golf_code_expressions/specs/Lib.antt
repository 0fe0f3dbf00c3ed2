pub mod WriterClauses
pub mod Places
pub mod Spines
