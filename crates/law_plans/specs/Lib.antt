pub mod Ends
pub mod Leaves
pub mod Runs
pub mod Told
pub mod Worked
pub mod OnDisk
