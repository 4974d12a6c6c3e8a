pub mod AdoptionRefines
pub mod EpochIsFilled
pub mod HandOutRefines
pub mod PieceChecks
