pub mod Channels
pub mod Offers
