pub mod Blanks
pub mod Keys
pub mod Pools
pub mod Queues
pub mod Rings
pub mod Samples
pub mod Windows
