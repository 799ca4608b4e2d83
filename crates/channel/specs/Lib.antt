pub mod One
pub mod OneData
pub mod OneAck
