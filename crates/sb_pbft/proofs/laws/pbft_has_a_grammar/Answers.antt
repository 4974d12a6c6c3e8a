use Rattle.pbft_wire.proofs.MessageGrammar.{message-grammar}
use Rattle.sb_pbft.proofs.laws.pbft_has_a_grammar.Goals as goal

pub returns-clause-grammar : goal.returns-clause-grammar
returns-clause-grammar c = message-grammar
