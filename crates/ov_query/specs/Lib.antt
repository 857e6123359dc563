pub mod Asking
pub mod Queries
pub mod Answering
pub mod Joining
