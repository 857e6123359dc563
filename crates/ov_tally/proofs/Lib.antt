pub mod Cutting
pub mod Marks
pub mod Ranges
pub mod Sorting
pub mod Tallies
pub mod Ties
pub mod Bounds
