pub mod Forms
pub mod OnForms
pub mod Deciding
pub mod Numbers
