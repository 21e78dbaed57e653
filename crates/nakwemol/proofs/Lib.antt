pub mod Coded
pub mod Numbers
