pub mod Runs
pub mod Ready
pub mod Completing
pub mod Worked
pub mod AtHand
