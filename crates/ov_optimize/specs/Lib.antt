pub mod Reading
pub mod Damages
pub mod Counting
pub mod Planned
