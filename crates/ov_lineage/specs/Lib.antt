pub mod Related
pub mod Bare
pub mod Resolved
