pub mod Tells
pub mod Rules
pub mod Lowest
pub mod Short
pub mod First
