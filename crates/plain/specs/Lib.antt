pub mod Sides
pub mod Replies
pub mod Grown
pub mod Files
