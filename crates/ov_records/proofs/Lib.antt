pub mod Commits
pub mod Finds
pub mod Rids
pub mod Passes
