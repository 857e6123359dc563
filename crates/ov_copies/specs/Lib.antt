pub mod Copies
pub mod Asking
pub mod Gathering
