pub mod Seams
pub mod PlaceLaws
pub mod TableLaws
pub mod JudgeLaws
pub mod WalkLaws
pub mod Alike
pub mod NamesAlone
