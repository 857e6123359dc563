pub mod Changing
pub mod Last
pub mod Storable
