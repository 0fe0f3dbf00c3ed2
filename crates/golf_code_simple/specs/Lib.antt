pub mod SimpleClauses
