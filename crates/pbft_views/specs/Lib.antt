pub mod Claims
pub mod Choice
pub mod Good
pub mod Laws
