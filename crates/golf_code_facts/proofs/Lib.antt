pub mod Steps
pub mod Expressions
pub mod Simple
pub mod Parts
pub mod Loops
pub mod Selects
pub mod Statements
pub mod Files
