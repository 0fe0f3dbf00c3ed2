pub mod Peaks
pub mod Types
pub mod Exprs
pub mod Simples
pub mod Stmts
pub mod Files
