pub mod Words
pub mod Forms
pub mod Proposed
pub mod Command
