pub mod Hex
pub mod Escape
