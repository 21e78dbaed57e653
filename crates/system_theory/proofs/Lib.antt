pub mod Rows
pub mod System
