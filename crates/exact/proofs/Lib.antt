pub mod Sums
pub mod Halves
pub mod Units
pub mod Terms
pub mod Exact
pub mod Products
