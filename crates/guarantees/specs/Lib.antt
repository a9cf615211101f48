pub mod Examples
pub mod Calls
pub mod Book
pub mod Theorem
pub mod Worked
