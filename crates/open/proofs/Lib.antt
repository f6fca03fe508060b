pub mod Filled
pub mod Housed
pub mod Judged
pub mod Opened
