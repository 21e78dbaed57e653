pub mod Model
pub mod Numbers
pub mod Spot
pub mod Distance
