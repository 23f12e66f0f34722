pub mod Fours
pub mod OnlyText
pub mod SomeText
pub mod Turning
