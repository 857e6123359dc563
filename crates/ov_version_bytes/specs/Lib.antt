pub mod Positions
pub mod Written
pub mod Next
