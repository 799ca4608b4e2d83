pub mod Draw
pub mod Tally
pub mod Run
pub mod One
