pub mod Numerals
pub mod Reading
pub mod Listing
pub mod Printed
pub mod Judged
pub mod Cases
pub mod Lists
