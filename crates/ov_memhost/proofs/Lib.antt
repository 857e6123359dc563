pub mod Allowed
pub mod Crashed
pub mod Doubts
pub mod Files
pub mod Grown
pub mod Numbers
