pub mod Writing
pub mod Back
