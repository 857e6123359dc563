pub mod Adding
mod Repeats
mod Places
mod Taken
mod Differ
pub mod Seen
pub mod Longer
