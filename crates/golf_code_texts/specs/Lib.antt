pub mod AddedTexts
pub mod Spines
