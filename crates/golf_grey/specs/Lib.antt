pub mod Rule
pub mod Hands
pub mod Laws
