pub mod Rids
pub mod Lists
pub mod Edges
pub mod Walks
