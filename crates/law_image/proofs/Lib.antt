pub mod Readers
pub mod Standing
pub mod Checkpointed
pub mod Extents
pub mod Worked
