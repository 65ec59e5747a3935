pub mod Backs
pub mod Cells
pub mod Targets
