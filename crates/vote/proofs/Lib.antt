pub mod Seat
pub mod Acts
pub mod Says
pub mod Exits
