pub mod Integer
pub mod Float
pub mod Duration
pub mod Search
