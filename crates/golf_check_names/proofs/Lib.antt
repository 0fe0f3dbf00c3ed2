pub mod Laws
pub mod Wholes
pub mod Spines
