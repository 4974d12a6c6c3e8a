use Rattle.hs_tree.proofs.MessageGrammar.{message-grammar}
use Rattle.sb_chained.proofs.laws.chained_has_a_grammar.Goals as goal

pub returns-clause-grammar : goal.returns-clause-grammar
returns-clause-grammar c = message-grammar 1
