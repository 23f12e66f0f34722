pub mod Evaluation
pub mod Written
