use Rattle.pbft_wire.proofs.MessageGrammar.{message-grammar}
use Rattle.pbft_wire.proofs.Table.{message-related}
use Rattle.pbft_wire.proofs.laws.messages_are_exact.Goals as goal

pub returns-clause-grammar : goal.returns-clause-grammar
returns-clause-grammar c = message-grammar

pub returns-clause-message_table : goal.returns-clause-message_table
returns-clause-message_table c = message-related
