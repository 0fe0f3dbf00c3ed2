pub mod Causes
pub mod ReadCause
pub mod Overwritten
pub mod Roomy
pub mod InMemory
pub mod formers
