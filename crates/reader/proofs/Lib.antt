pub mod Cuts
pub mod Values
pub mod Lines
