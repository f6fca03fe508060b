pub mod Splits
pub mod Decimal
pub mod Grammar
pub mod Held
pub mod Cases
