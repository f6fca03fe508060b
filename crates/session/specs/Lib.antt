pub mod Feed
pub mod Held
pub mod Laws
pub mod Cases
