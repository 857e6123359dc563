pub mod Disk
pub mod Extent
pub mod Host
pub mod Source
pub mod Stage
pub mod Stops
pub mod Tape
