pub mod UnfinishedGraphs
pub mod Ready
