-- Small codes whose states are listed by computing.
pub mod Tables
pub mod Endless
pub mod Starting
pub mod Choosing
pub mod Leaking
pub mod Swinging
pub mod Ties
