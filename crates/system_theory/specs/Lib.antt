pub mod Drift
pub mod System
pub mod Slopes
