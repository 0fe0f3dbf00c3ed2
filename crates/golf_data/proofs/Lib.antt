pub mod Masks
pub mod Equal
pub mod Clears
pub mod Prefixes
