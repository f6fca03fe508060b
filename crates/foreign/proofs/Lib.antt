pub mod Bytes
pub mod Within
pub mod Posts
