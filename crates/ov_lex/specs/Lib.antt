pub mod Lexing
pub mod Scans
pub mod Spellings
pub mod Texts
