pub mod Merged
pub mod Orders
pub mod Picks
pub mod Rising
pub mod Steps
pub mod Walking
