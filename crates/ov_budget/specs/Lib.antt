pub mod Tables
pub mod Choices
pub mod Sizes
pub mod Offers
