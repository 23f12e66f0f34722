pub mod Closures
pub mod Convolving
pub mod Modulo
pub mod SameCount
pub mod SameFewest
pub mod SameTally
pub mod SumsBelow
