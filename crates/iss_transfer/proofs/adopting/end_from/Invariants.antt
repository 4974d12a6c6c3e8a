use Rattle.std.proofs.Common.{◌≡◌, ◌++◌, take}
use Rattle.iss_log.specs.Chains.{end_from, strings_from}
use Rattle.iss_transfer.proofs.adopting.end_from.Given as goal

abbrev pub invariant-loop-value : goal.invariant-loop-value
invariant-loop-value l = (l.end ≡ end_from l.version l.fn.start (take l.value-index l.values)) × (l.hashed ≡ l.fn.hashed ++ strings_from l.version l.fn.start.chain (take l.value-index l.values))
