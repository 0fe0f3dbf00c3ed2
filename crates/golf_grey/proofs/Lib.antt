pub mod Steps
pub mod Rows
pub mod Stages
pub mod Taking
pub mod Making
pub mod Pair
pub mod Telling
pub mod Leaving
