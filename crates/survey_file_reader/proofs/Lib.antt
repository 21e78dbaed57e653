pub mod Places
pub mod Numbers
pub mod Taken
pub mod Whole
