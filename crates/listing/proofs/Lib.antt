pub mod Steps
pub mod Setups
pub mod Units
pub mod Fitting
pub mod Whole
pub mod Agreement
pub mod Long
