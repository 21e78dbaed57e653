pub mod Grid
pub mod Rounded
pub mod Operations
pub mod Distance
pub mod SumError
pub mod Order
pub mod Clear
pub mod Within
