pub mod FrontLaws
pub mod MergeLaws
pub mod OrderLaws
pub mod RiseLaws
pub mod RunLaws
pub mod SlotLaws
pub mod TextLaws
pub mod TextSteps
