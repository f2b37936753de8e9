pub mod Counts
pub mod Meaning
pub mod Law
pub mod Certificates
pub mod Promise
