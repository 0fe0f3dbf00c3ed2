pub mod Adding
pub mod Places
pub mod Counting
pub mod Filling
