pub mod Errors
pub mod Following
pub mod Kept
pub mod Table
pub mod Gathered
pub mod Said
pub mod Whole
pub mod Asked
