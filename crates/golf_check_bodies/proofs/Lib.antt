pub mod Spines
pub mod Wholes
pub mod Branches
pub mod Blocks
pub mod EndingBranches
