pub mod Refusal
pub mod Ledger
pub mod Alone
pub mod Config
pub mod PerClass
