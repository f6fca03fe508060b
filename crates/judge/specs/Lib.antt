pub mod Judged
pub mod Narrow
