pub mod Countdown
pub mod Courses
pub mod OldOrNew
pub mod Pieces
pub mod PlanBounds
pub mod PlanEnds
pub mod Sound
pub mod Sources
