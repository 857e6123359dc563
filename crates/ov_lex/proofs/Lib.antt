pub mod FirstBytes
pub mod Fronts
pub mod Lexing
pub mod Numbers
pub mod Runs
pub mod Scan
pub mod Scans
