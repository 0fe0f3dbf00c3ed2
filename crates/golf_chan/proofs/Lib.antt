pub mod Buffers
pub mod Passing
pub mod Offering
