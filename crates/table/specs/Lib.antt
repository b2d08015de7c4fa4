pub mod Words
pub mod Check
pub mod Rows
pub mod Law
