pub mod Segments
pub mod Tables
pub mod Held
pub mod Reading
pub mod Runs
pub mod Fronts
pub mod Keeping
pub mod Drafts
