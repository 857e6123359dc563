pub mod Sorting
pub mod Grouping
pub mod CellKinds
pub mod Meaning
pub mod Filtering
pub mod Cutting
pub mod Ordering
pub mod Climbing
