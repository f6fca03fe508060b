pub mod Past
pub mod Cells
pub mod Says
pub mod Call
