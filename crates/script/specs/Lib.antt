pub mod Faults
pub mod Payloads
pub mod Records
pub mod Calls
pub mod Scripts
pub mod Laws
