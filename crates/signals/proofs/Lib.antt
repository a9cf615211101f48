pub mod Peers
pub mod Searches
