pub mod Estimate
pub mod Rounding
