pub mod Blocks
pub mod Sampling
pub mod Sources
pub mod Streams
pub mod Expansions
