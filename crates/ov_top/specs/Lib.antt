pub mod Errors
pub mod Bytes
pub mod Running
pub mod Ending
pub mod Composing
