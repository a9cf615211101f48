pub mod Item
pub mod Text
pub mod Run
