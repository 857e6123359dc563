pub mod Lists
pub mod Segments
pub mod Pages
pub mod Images
pub mod Checkpoints
pub mod Worked
