use Rattle.hs_tree.proofs.MessageGrammar.{message-grammar, message-related}
use Rattle.hs_tree.proofs.laws.messages_are_exact.Goals as goal

pub returns-clause-grammar : goal.returns-clause-grammar
returns-clause-grammar c = message-grammar

pub returns-clause-message_table : goal.returns-clause-message_table
returns-clause-message_table c = message-related
