pub mod Pairs
pub mod Call
pub mod Rules
pub mod Refusals
pub mod Bins
pub mod Semivariogram
pub mod Binned
