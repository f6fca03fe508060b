pub mod Laws
pub mod Ending
