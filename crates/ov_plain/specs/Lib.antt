pub mod Small
pub mod Choosing
