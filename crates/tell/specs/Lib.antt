pub mod Votes
pub mod Chosen
pub mod Lines
pub mod Past
