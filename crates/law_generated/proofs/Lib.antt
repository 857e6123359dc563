pub mod Fresh
pub mod Finding
pub mod Steps
