pub mod Votes
pub mod Chosen
pub mod Found
pub mod Unvoted
pub mod Lines
pub mod Past
