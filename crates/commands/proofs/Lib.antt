pub mod KindLaws
pub mod ParseLaws
pub mod SpellLaws
