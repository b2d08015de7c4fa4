pub mod Numbers
pub mod Archives
pub mod Stores
pub mod Slots
pub mod Worlds
pub mod Refusals
pub mod Plans
pub mod Calls
