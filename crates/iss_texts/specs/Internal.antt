-- Relations that only functions of reading a text use.
pub mod Refusals
