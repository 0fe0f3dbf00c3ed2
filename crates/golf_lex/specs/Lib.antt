pub mod Automaton
pub mod Words
pub mod Strings
pub mod LexemeScan
pub mod Output
pub mod Answers
pub mod Laws
