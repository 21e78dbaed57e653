pub mod Told
pub mod Places
pub mod Codes
pub mod Accepted
pub mod Figures
