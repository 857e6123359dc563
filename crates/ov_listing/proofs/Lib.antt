pub mod Showing
pub mod ShowingLayout
