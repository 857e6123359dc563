pub mod Numbers
pub mod Refused
pub mod Costs
pub mod Tables
pub mod Picks
pub mod Plans
