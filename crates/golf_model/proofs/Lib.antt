pub mod Agreeing
pub mod Firsts
pub mod GraphLaws
pub mod GraphRanges
pub mod SleeperLists
pub mod GraphRows
pub mod ViewForms
pub mod Examples
