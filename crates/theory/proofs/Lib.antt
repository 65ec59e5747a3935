pub mod Endians
pub mod Pigeons
pub mod Places
pub mod Sweeps
