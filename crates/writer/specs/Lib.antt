pub mod Decimal
pub mod Lines
pub mod Row
pub mod One
