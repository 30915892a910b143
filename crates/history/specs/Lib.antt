pub mod Limits
pub mod Performing
pub mod Happening
pub mod Promise
pub mod Stories
