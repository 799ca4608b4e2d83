pub mod Listing
pub mod Agreement
pub mod Run
pub mod Fitting
pub mod Output
pub mod One
pub mod Session
