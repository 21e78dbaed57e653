pub mod Series
pub mod Bracket
