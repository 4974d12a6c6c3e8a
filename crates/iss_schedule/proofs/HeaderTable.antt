pub mod FieldsDetermineValues
pub mod LineDeterminesFaultyNodes
pub mod ModuleRows
pub mod TestsDecide
pub mod ValuesDetermineSetup
