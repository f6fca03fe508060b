pub mod Chains
pub mod Sets
pub mod Counted
pub mod Lists
