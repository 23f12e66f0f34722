pub mod Lines
pub mod Puts
pub mod Values
