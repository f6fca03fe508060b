pub mod Decimal
pub mod Listing
pub mod Forms
pub mod Cases
