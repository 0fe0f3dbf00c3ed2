-- Alike states: each stands for the other.
pub mod Partners
pub mod Changes
pub mod Waking
pub mod ChangeLists
pub mod Ways
pub mod Firsts
pub mod Waiters
pub mod Served
pub mod Instructions
pub mod Parts
pub mod Kinds
pub mod Equivalence
pub mod Dead
pub mod Turns
