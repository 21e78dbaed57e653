pub mod Types
pub mod Call
pub mod Rules
pub mod Refusals
pub mod Assembly
pub mod Interpolation
pub mod System
pub mod Exit
