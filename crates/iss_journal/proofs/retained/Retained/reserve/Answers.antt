use Rattle.std.proofs.Common.{refl}
use Rattle.iss_journal.specs.SharedViews.{shared_in}
use Rattle.iss_journal.proofs.RetainedLemmas.{count-same, ends-same, kept-same, shared_same}
use Rattle.iss_journal.proofs.retained.Retained.reserve.Goals as goal

pub invariant_of-self : goal.invariant_of-self
invariant_of-self c =
    let now = c.args.self.now in
    let es = shared_in now.entries in
    record {
      kept = now.kept;
      count = count-same es es refl now.gates.items c.reserve.new.self.items c.reserve.ensures.items now.count;
      ends = now.ends;
    }

pub invariant_of-self-2 : goal.invariant_of-self-2
invariant_of-self-2 c =
    let now = c.args.self.now in
    let es = shared_in now.entries in
    let new = shared_in c.reserve-2.new.self in
    let same =
    shared_same now.entries c.reserve-2.new.self c.reserve-2.ensures.same.own c.reserve-2.ensures.same.tails in
    record {
      kept = kept-same es new same now.kept;
      count = count-same es new same now.gates.items c.reserve.new.self.items c.reserve.ensures.items now.count;
      ends = ends-same es new same now.start now.end now.ends;
    }
