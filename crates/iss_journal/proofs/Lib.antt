mod FrameLemmas
mod Grammar
mod Book
mod Crash
mod Steps
mod Resting
mod Reading
mod SomeReading
mod TailLemmas
pub mod Retaining
pub mod Showing
mod RetainedLemmas
mod Over
mod Attaching
