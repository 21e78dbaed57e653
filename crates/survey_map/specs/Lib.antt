pub mod Areas
pub mod Text
