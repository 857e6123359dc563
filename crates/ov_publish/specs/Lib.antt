pub mod Pages
pub mod Puts
pub mod Steps
