pub mod Located
pub mod Fields
