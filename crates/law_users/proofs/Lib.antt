pub mod Times
pub mod Ordering
pub mod Schemas
pub mod Sparing
pub mod Quiet
pub mod OwnRows
pub mod Owned
