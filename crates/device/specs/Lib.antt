pub mod Left
pub mod Held
