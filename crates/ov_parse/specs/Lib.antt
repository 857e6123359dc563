pub mod Refusing
pub mod Returning
pub mod Scopes
pub mod Unquoting
