pub mod Mover
