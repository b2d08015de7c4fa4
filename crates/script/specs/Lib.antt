pub mod Numbers
pub mod Pieces
pub mod Lines
pub mod Events
pub mod Reading
pub mod Writing
pub mod Unreads
