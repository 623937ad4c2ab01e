pub mod Command
pub mod Kind
pub mod Laws
pub mod Parse
pub mod Meaning
pub mod Spell
pub mod Refusal
