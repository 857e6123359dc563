pub mod Events
pub mod Fields
pub mod Fitting
pub mod Reading
pub mod Records
pub mod Spelling
