use Rattle.iss_transfer.proofs.PieceGrammar.{ask-again, ask-only, ask-table}
use Rattle.iss_transfer.proofs.laws.asks_are_exact.Goals as goal

pub returns-clause-only : goal.returns-clause-only
returns-clause-only c = λ e bytes rest a h. ask-only e bytes rest a h

pub returns-clause-whole : goal.returns-clause-whole
returns-clause-whole c = λ a. ask-again a

pub returns-clause-table : goal.returns-clause-table
returns-clause-table c = λ e a bytes. ask-table e a bytes
