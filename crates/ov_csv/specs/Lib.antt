pub mod Growing
pub mod Lines
pub mod Plain
pub mod Refusing
pub mod Taking
