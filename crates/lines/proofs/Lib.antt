pub mod Pairs
pub mod Texts
pub mod Back
