pub mod Parts
pub mod Sums
pub mod Candidates
pub mod Runs
pub mod Orders
pub mod Examples
pub mod Peeling
pub mod Sides
