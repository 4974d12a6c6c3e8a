use Rattle.std.proofs.Common.{◌≡◌, ◌||◌, ℕ, is_some, take}
use Rattle.iss_node.specs.Saved.{holds}
use Rattle.iss_rules.specs.Votes.{cert_on}
use Rattle.iss_node.proofs.saved.Saved.note.Given as goal

abbrev pub invariant-loop-cert : goal.invariant-loop-cert
invariant-loop-cert l = record {
  from : l.self.from ≡ l.fn.to.0;
  held : (e : ℕ) → holds l.self e ≡ (holds l.fn.self e || is_some (cert_on (take l.cert-index l.certs) e));
}
