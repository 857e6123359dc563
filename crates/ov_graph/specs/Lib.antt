pub mod Versions
pub mod Trees
pub mod Splits
pub mod Entries
