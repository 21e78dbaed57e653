pub mod Words
pub mod Compared
