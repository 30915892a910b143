pub mod Floats
pub mod InBytes
pub mod Readings
pub mod Phases
pub mod OnePart
pub mod Laws
