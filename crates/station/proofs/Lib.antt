pub mod Peers
pub mod Rooms
pub mod Rosters
