pub mod Audit
pub mod Trend
pub mod Lists
