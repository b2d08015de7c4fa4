pub mod Beside
pub mod Ruled
