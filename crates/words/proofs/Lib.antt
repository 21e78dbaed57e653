pub mod Whole
pub mod Words
pub mod Residue
pub mod Held
pub mod Carries
pub mod Sign
pub mod Compared
