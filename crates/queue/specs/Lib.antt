pub mod Coalescing
pub mod CoalescingAlone
pub mod Entries
pub mod Fates
pub mod Pool
pub mod Waiting
pub mod Window
