pub mod BookLaws
pub mod BackLaws
pub mod LogLaws
pub mod GrowLaws
pub mod ChainLaws
