pub mod Sha256
pub mod Mixing
pub mod Rows
pub mod Running
pub mod Laws
pub mod Bitmap
