pub mod OneLogLemmas
