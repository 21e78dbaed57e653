pub mod Terms
pub mod Room
