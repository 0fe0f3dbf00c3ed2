pub mod Batches
pub mod Bits
pub mod Flags
pub mod Places
pub mod Rule
pub mod Seats
