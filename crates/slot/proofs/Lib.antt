pub mod Chains
mod Loops
pub mod Places
mod Writes
