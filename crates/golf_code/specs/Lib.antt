pub mod Steps
pub mod Comparison
