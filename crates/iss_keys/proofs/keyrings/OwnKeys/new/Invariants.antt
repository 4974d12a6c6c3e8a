use Rattle.std.proofs.Common.{◌≡◌, length, map}
use Rattle.iss_keys.specs.Internal.Rings.{IsRing}
use Rattle.iss_keys.proofs.keyrings.OwnKeys.new.Given as goal

abbrev pub invariant-numbers : goal.invariant-numbers
invariant-numbers l = (length l.trees.items ≡ l.number)
    × IsRing l.kind l.height.levels (map (λ trees. trees.value) l.trees.items)
