pub mod Key
pub mod Mix
pub mod Buckets
pub mod Bytes
pub mod Ipv4
pub mod Text
