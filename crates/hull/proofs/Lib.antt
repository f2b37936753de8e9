pub mod Props
pub mod Counting
pub mod Laws
pub mod Promises
