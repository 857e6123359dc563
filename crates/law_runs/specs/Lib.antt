pub mod Licence
pub mod Stops
pub mod Serving
pub mod Moving
pub mod Stepping
