pub mod Enclosing
pub mod Odds
