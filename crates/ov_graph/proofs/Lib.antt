pub mod TreeLemmas
pub mod ReducedLemmas
pub mod LineageLemmas
pub mod VidLemmas
