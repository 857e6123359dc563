pub mod Schemas
pub mod Lists
pub mod Numerals
pub mod Boundaries
pub mod Splitting
pub mod Reading
pub mod Lines
pub mod Asked
