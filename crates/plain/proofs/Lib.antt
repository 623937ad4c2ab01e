pub mod ReplyLaws
pub mod SideLaws
pub mod GrownLaws
pub mod FileLaws
