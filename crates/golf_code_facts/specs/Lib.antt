pub mod Facts
pub mod Expressions
pub mod Statements
pub mod Loops
pub mod Selects
pub mod StatementCode
pub mod Files
pub mod Laws
