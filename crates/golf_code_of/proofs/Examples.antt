-- Small trees with the code that the definitions give them, against code that was written by hand.
pub mod Writing
pub mod Expressions
pub mod Doing
pub mod Statements
pub mod Loops
pub mod Selects
pub mod Calls
pub mod Files
