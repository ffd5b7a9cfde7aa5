pub mod Rules
pub mod Exported
