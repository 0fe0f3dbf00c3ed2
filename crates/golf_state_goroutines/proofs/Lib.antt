pub mod Rises
mod Numbered
mod Listing
mod Ranges
mod Middles
mod Splits
mod Summing
mod BlockLaws
mod RunLaws
mod Copying
pub mod PlaceLaws
