pub mod Text
pub mod Cuts
pub mod Values
pub mod Lines
pub mod One
