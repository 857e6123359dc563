pub mod FileRows
pub mod Keyed
pub mod Refusing
