pub mod Lays
pub mod Begins
pub mod Clauses
pub mod Begun
pub mod Ranges
pub mod Branches
