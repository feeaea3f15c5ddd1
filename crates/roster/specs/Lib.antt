pub mod Listing
pub mod Rosters
