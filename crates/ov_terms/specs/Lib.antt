pub mod Seeing
pub mod Sources
pub mod Standing
pub mod Summing
pub mod Best
pub mod Finding
