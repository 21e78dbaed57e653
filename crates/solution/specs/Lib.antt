pub mod Solution
pub mod Slopes
