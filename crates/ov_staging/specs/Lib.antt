pub mod Changing
pub mod Deciding
pub mod Errors
pub mod Origins
pub mod Reading
pub mod Tables
pub mod Taking
pub mod Users
