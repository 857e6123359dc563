pub mod Found
pub mod Loop
pub mod Parsed
pub mod Said
pub mod Slices
pub mod Unescape
