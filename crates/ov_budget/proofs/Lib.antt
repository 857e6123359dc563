pub mod Chosen
pub mod Offering
pub mod Together
pub mod Divided
pub mod Listing
