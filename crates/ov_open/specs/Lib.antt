pub mod Opening
pub mod Refusing
pub mod Building
pub mod Replaying
