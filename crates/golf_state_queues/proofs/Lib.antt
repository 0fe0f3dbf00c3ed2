pub mod Held
pub mod HolderLaws
pub mod Adding
pub mod Standing
pub mod Partings
pub mod Narrowing
pub mod Lines
pub mod Guessing
