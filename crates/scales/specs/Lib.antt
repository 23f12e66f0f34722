pub mod Counts
pub mod Fewests
pub mod Places
pub mod Semiring
pub mod Tallies
