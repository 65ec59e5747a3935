pub mod Linear
pub mod Listed
pub mod Places
pub mod Products
pub mod Ranges
pub mod Words
