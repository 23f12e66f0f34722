pub mod Answers
pub mod Evaluations
pub mod Fields
pub mod Lines
pub mod Questions
pub mod Says
