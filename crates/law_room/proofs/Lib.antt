pub mod Room
pub mod Known
pub mod Lengths
pub mod Checkpoints
