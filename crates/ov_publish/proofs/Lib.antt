pub mod Adding
pub mod Filling
pub mod Growing
pub mod Overwriting
pub mod Padding
pub mod Settling
