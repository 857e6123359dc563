pub mod Uniting
pub mod Told
pub mod Same
