pub mod Items
pub mod Texts
pub mod Bounds
pub mod Runs
pub mod Worked
