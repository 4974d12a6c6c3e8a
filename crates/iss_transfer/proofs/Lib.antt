pub mod AdoptionLemmas
pub mod PieceGrammar
