pub mod Sizes
pub mod Examples
