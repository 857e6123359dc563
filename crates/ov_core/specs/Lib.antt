pub mod Held
pub mod AtWorld
pub mod Brought
pub mod Errors
pub mod Rooms
pub mod Snapshots
