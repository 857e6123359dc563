pub mod Counting
pub mod Ranks
pub mod Running
pub mod Spans
