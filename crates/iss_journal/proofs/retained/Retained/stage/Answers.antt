use Rattle.std.proofs.Common.{refl}
use Rattle.iss_journal.specs.SharedViews.{shared_in}
use Rattle.iss_journal.proofs.RetainedLemmas.{count-same, ends-same, kept-same, shared_same}
use Rattle.iss_journal.proofs.retained.Retained.stage.Goals as goal

pub invariant_of-self : goal.invariant_of-self
invariant_of-self c =
    let now = c.args.self.now in
    let es = shared_in now.entries in
    let new = shared_in c.stage.new.self in
    let same = shared_same now.entries c.stage.new.self c.stage.ensures.same.own c.stage.ensures.same.tails in
    record {
      kept = kept-same es new same now.kept;
      count = count-same es new same now.gates.items now.gates.items refl now.count;
      ends = ends-same es new same now.start now.end now.ends;
    }
