pub mod Making
pub mod Pairs
