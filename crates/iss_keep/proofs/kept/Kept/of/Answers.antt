use Rattle.std.proofs.Common.{refl}
use Rattle.iss_keep.proofs.ReplayLemmas.{fresh-shown}
use Rattle.iss_keep.proofs.kept.Kept.of.Goals as goal

pub returns : goal.returns
returns g c =
    rw (← c.fresh.view_is) (record {
      same = (refl, refl);
      stale = refl;
      journal = (c.over.ensures.disk, c.over.ensures.entries);
      shown = fresh-shown g.M.Sequenced.spec g.M.Sequenced.refines _ c.fresh.invariant.core;
    })
