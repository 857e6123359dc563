pub mod Ranking
pub mod Runs
pub mod Keys
pub mod Plans
