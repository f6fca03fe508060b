pub mod Stream
pub mod Turns
pub mod Calls
pub mod Cases
