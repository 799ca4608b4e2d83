pub mod Places
pub mod Ticks
