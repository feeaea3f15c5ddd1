pub mod Listings
pub mod First
