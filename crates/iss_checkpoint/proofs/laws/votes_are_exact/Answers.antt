use Rattle.iss_checkpoint.proofs.VoteGrammar.{vote-only, vote-table, vote-whole}
use Rattle.iss_checkpoint.proofs.laws.votes_are_exact.Goals as goal

pub returns-clause-only : goal.returns-clause-only
returns-clause-only c = λ by e bytes rest v h. vote-only by e bytes rest v h

pub returns-clause-whole : goal.returns-clause-whole
returns-clause-whole c = λ v. vote-whole v

pub returns-clause-table : goal.returns-clause-table
returns-clause-table c = λ by e v bytes. vote-table by e v bytes
