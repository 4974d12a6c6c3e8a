use Rattle.std.proofs.Common.{◌≡◌, take}
use Rattle.iss_rules.specs.Formats.{formats_of}
use Rattle.iss_model.specs.Node.{packed}
use Rattle.iss_node.proofs.parcels.pack.Given as goal

abbrev pub invariant-loop-to : goal.invariant-loop-to
invariant-loop-to g l = l.packets ≡ packed (formats_of l.setup g.M.Sequenced.spec) l.origin.node.0 l.origin.epoch.0 l.origin.leader.0 (take l.to-index l.sends)
