pub mod Told
pub mod Accepted
pub mod Matrix
pub mod Endings
pub mod System
pub mod SystemDiagonal
pub mod SystemKriged
pub mod Promise
