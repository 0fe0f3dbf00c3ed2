pub mod Bytes
pub mod Spelling
pub mod Lexemes
pub mod Semicolons
pub mod Lexes
pub mod Cost
