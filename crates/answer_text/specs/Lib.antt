pub mod Output
pub mod Texts
