pub mod Exponential
pub mod Exact
