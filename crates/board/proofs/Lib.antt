pub mod Bytes
pub mod Means
