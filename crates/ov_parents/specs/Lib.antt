pub mod Parents
pub mod Taking
pub mod Seeing
