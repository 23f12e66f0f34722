pub mod Decided
pub mod LinearRuns
pub mod Runs
pub mod Settling
pub mod Stepping
