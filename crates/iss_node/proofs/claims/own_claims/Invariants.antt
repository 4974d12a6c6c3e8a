use Rattle.std.proofs.Common.{◌≡◌, take}
use Rattle.iss_model.specs.Node.{own_claims}
use Rattle.iss_node.proofs.claims.own_claims.Given as goal

abbrev pub invariant-loop-msg : goal.invariant-loop-msg
invariant-loop-msg g l = l.own ≡ own_claims g.M.Sequenced.spec l.p l.me.0 (take l.msg-index l.sends)
