pub mod Parts
pub mod Spines
pub mod TypeInduction
pub mod ExpressionInduction
pub mod StatementInduction
pub mod Elses
