pub mod Ranges
pub mod Rising
pub mod Growing
pub mod Listing
pub mod Saying
pub mod Graphs
