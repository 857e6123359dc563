pub mod Events
pub mod Formats
pub mod Lengths
pub mod Loop
pub mod Records
pub mod Texts
