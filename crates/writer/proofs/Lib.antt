pub mod Row
pub mod Decimal
pub mod Units
