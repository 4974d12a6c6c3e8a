use Rattle.std.proofs.Common.{arith}
use Rattle.iss_journal.proofs.Book.{last_is}
use Rattle.iss_journal.proofs.FrameLemmas.{length-entries}
use Rattle.iss_journal.proofs.entries.Entries.gate_before.Goals as goal

pub returns-then-count-self : goal.returns-then-count-self
returns-then-count-self c =
    let now = c.args.self.now in
    last_is now.bytes.items now.count now.last c.args.count now.book c.if-count-self.true

pub gate_of-requires : goal.gate_of-requires
gate_of-requires c =
    let now = c.args.self.now in
    omega (arith, c.requires, c.if-count-self.false, length-entries 0 now.bytes.items now.count)
