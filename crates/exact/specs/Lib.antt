pub mod Whole
pub mod Units
pub mod Products
