pub mod Parts
pub mod Changes
pub mod Flips
pub mod Index
pub mod Spares
pub mod Leaving
pub mod Kept
