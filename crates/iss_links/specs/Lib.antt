pub mod Calls
pub mod Ends
pub mod Frames
pub mod Internal
pub mod Joined
pub mod Reassembly
