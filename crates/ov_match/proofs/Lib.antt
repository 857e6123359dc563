pub mod Counts
pub mod Cheapest
pub mod Named
