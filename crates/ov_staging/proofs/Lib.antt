pub mod Looks
pub mod Ended
pub mod Acted
pub mod Keys
pub mod Behind
pub mod Told
pub mod Taken
pub mod Sources
