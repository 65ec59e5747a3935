mod Blocks
mod Bytes
mod Lanes
pub mod Outputs
mod Steps
