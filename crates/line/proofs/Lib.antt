pub mod Tested
pub mod Steps
pub mod LaidWords
pub mod Endings
pub mod Telling
pub mod Places
pub mod CollectEndings
pub mod Done
