pub mod Room
pub mod Agreement
pub mod Runs
