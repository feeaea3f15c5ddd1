pub mod Texts
pub mod Changes
