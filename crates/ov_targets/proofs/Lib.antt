pub mod Marks
pub mod Buckets
pub mod Said
pub mod Agreeing
pub mod Sorting
