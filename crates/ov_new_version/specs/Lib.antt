pub mod Errors
pub mod Asked
pub mod Joined
pub mod Held
pub mod Commits
pub mod OfWorld
