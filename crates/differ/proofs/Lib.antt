pub mod Differ
pub mod Slots
