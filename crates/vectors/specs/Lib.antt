pub mod Counted
pub mod Lent
pub mod Surveys
pub mod Tallied
pub mod Words
