pub mod Help
pub mod Messages
pub mod Rules
