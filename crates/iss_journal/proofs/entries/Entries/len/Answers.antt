use Rattle.std.proofs.Common.{sym}
use Rattle.iss_journal.proofs.FrameLemmas.{length-entries}
use Rattle.iss_journal.proofs.entries.Entries.len.Goals as goal

pub returns : goal.returns
returns c = sym (length-entries 0 c.args.self.now.bytes.items c.args.self.now.count)
