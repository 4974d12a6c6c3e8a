use Rattle.sb_pbft.proofs.Refinement.ViewChangeRefines.{hashed-changes}
use Rattle.sb_pbft.proofs.changing.+hash_changes.Goals as goal

pub returns : goal.returns
returns t c =
    hashed-changes c.args.p.now c.args.changes.now c.first-item.result c.as_slice.result.now c.args.effects.now c.hash_values.new.effects
    c.hash_changes.new.effects c.first-item.is
    c.in-len1-up.len_at_least c.as_slice.ensures c.in_ok-hash_values.ensures c.in_ok-hash_changes.ensures
