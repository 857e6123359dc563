pub mod Targets
pub mod Turns
pub mod Worked
