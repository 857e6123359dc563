pub mod Committed
pub mod Found
pub mod Passing
pub mod Records
