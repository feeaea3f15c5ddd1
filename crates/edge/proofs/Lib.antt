pub mod Backs
pub mod Sending
