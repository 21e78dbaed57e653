pub mod Placed
pub mod Lengths
pub mod Body
pub mod Fit
pub mod Refused
pub mod Promised
