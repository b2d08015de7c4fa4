pub mod Steps
pub mod NumberLaw
pub mod PieceLaw
pub mod LineLaw
pub mod WordLaw
pub mod EventLaw
pub mod FormatLaw
