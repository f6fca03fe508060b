pub mod Plain
pub mod Parts
pub mod Heard
pub mod Says
