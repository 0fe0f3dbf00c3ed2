pub mod Counts
pub mod Cut
pub mod Laws
