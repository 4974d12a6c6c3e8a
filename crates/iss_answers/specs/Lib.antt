pub mod Lines
pub mod Texts
pub mod Refusals
pub mod Printed
pub mod Internal
