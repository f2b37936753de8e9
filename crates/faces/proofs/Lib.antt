pub mod Cuts
pub mod Pushes
pub mod Places
