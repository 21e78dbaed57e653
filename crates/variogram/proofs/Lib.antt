pub mod Model
pub mod Spot
pub mod Squares
pub mod Distance
pub mod Parts
pub mod Itself
pub mod Signs
pub mod Exponents
