pub mod Sets
pub mod Started
pub mod Dues
