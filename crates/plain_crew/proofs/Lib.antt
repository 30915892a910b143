mod Mapping
pub mod Undone
