use Rattle.std.proofs.Common.{◌+◌, ◌≤◌, false, length}
use Rattle.iss_keep.specs.State.{KeptRefinesCore}
use Rattle.iss_model.specs.Node.{Core}
use Rattle.iss_certified.specs.Exported.{certs_shown}
use Rattle.iss_export.proofs.ExportLemmas.{Puts}
use Rattle.iss_export.proofs.exporting.put_kept.Given as goal

abbrev pub invariant-epochs : goal.invariant-epochs
invariant-epochs g l = record {
  room : l.number + length l.rest ≤ length l.log;
  puts : (c : Core g.row.M-Msg.Denot) → KeptRefinesCore g.M.Sequenced.spec g.M.Sequenced.refines l.node c →
      Puts l.setup (certs_shown c false) l.log l.initial.out.items l.rest l.number l.out.items;
}

abbrev pub decreases-epochs : goal.decreases-epochs
decreases-epochs g l = length l.rest
