pub mod Parts
pub mod Called
pub mod Layout
pub mod Outcome
