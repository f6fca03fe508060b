pub mod Cases
pub mod Lines
pub mod Writing
pub mod Fields
pub mod Rows
pub mod Intake
