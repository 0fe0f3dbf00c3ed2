pub mod Gather
pub mod Blocks
pub mod Inside
pub mod Loans
pub mod Spots
