pub mod Enclosure
pub mod Rounding
