pub mod Errors
pub mod Choices
pub mod Worlds
