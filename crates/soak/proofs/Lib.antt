pub mod Tallies
pub mod Soaking
