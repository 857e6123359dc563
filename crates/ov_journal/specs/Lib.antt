pub mod Bytes
pub mod Held
pub mod Journal
pub mod Opened
pub mod Reading
pub mod Ahead
pub mod Snapshots
pub mod Checkpoints
