pub mod Batches
pub mod Lines
