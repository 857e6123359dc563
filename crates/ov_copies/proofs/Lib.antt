pub mod Asks
pub mod Added
pub mod Passing
pub mod Counting
pub mod Spelling
pub mod Worlds
pub mod Same
