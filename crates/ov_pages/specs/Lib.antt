pub mod Sets
pub mod Live
pub mod Edges
pub mod Area
pub mod Runs
pub mod Answers
pub mod Writes
