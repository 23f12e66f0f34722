pub mod Closing
pub mod Writing
