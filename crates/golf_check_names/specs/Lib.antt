pub mod Forms
pub mod Spines
