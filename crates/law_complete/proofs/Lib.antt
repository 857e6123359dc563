pub mod Ended
pub mod Roomy
pub mod OnDisk
