pub mod Distinct
pub mod Endian
pub mod Loops
pub mod Statements
pub mod Sweep
