pub mod Differing
pub mod Agreeing
pub mod Committing
