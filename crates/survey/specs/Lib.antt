pub mod Options
pub mod Limits
pub mod Survey
pub mod Bases
pub mod Lent
pub mod Places
pub mod Rules
pub mod Refusals
