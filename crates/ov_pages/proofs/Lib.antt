pub mod EdgeLemmas
pub mod TurnLemmas
pub mod FreeLemmas
pub mod RunLemmas
pub mod BuildLemmas
pub mod LiveLemmas
pub mod WriteLemmas
