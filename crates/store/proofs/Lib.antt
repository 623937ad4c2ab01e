pub mod Scheduling
pub mod Hashing
pub mod Written
pub mod Digests
pub mod Adding
pub mod Padding
pub mod Sums
pub mod BitLaws
mod SearchLaws
