pub mod Seams
pub mod Selects
pub mod Begun
pub mod Types
pub mod Branches
