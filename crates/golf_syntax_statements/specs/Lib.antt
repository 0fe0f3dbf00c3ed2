pub mod VariableReader
pub mod HeaderReader
pub mod CommunicationReader
pub mod StatementReader
pub mod Moves
pub mod Laws
