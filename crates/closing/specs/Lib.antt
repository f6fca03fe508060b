pub mod Printed
pub mod Laws
pub mod Given
pub mod Fields
pub mod Part
pub mod Cases
