pub mod Members
pub mod Explanations
pub mod Laws
