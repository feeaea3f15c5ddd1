pub mod Walks
pub mod Ruled
pub mod Heard
pub mod Forgets
pub mod Orders
pub mod Settle
pub mod Seen
