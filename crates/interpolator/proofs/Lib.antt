pub mod Sizes
pub mod Entries
pub mod Estimates
pub mod Called
pub mod Parts
