pub mod Fitting
pub mod Meeting
pub mod Partnering
pub mod Widening
