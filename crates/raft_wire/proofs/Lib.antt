mod EntryGrammar
mod EntryTable
mod Examples
pub mod MessageGrammar
pub mod Readable
mod Reading
mod Written
