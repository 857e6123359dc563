pub mod RowByRow
pub mod Spelled
