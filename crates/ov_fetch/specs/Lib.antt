pub mod Extents
pub mod Cursors
pub mod Rows
pub mod Gathering
pub mod Firsts
pub mod Scans
