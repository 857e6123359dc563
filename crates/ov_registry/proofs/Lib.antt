pub mod Deeds
pub mod Once
pub mod Rising
pub mod Stored
pub mod Versions
