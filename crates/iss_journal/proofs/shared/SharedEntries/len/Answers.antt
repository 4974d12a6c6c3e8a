use Rattle.std.proofs.Common.{◌∙◌, sym}
use Rattle.iss_journal.specs.EntryViews.{entries_in}
use Rattle.iss_journal.proofs.TailLemmas.{length-tails}
use Rattle.iss_journal.proofs.shared.SharedEntries.len.Goals as goal

pub returns : goal.returns
returns c = let now = c.args.self.now in
    c.len.ensures ∙ sym (length-tails (entries_in now.own) now.tails.items)
