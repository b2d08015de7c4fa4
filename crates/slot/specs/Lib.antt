pub mod Means
pub mod Changes
pub mod Tests
