pub mod Numbers
pub mod Kinds
pub mod Tests
pub mod Rules
pub mod Outcome
pub mod Short
