pub mod Doing
pub mod Migrating
