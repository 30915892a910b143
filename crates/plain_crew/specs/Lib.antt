pub mod Lanes
pub mod Collectors
pub mod Crews
