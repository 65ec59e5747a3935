pub mod Shake
pub mod Sponges
pub mod Statements
pub mod Steps
