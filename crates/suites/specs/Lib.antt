pub mod Kinds
pub mod Suites
