pub mod Reaching
pub mod Plain
