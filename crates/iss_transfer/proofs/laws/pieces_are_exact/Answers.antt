use Rattle.iss_transfer.proofs.PieceGrammar.{piece-only, piece-table, piece-whole}
use Rattle.iss_transfer.proofs.laws.pieces_are_exact.Goals as goal

pub returns-clause-only : goal.returns-clause-only
returns-clause-only c = λ version e bytes rest p h. piece-only version e bytes rest p h

pub returns-clause-whole : goal.returns-clause-whole
returns-clause-whole c = λ version p. piece-whole version p

pub returns-clause-table : goal.returns-clause-table
returns-clause-table c = λ version e p bytes. piece-table version e p bytes
