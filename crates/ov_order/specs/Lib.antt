pub mod Fronts
pub mod Keyed
pub mod Merging
pub mod Runs
pub mod Slots
