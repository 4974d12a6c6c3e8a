use Rattle.std.proofs.Common.{ℕ, ◌<◌, ◌^◌, sym, subst}
use Rattle.tests_node.proofs.snapshots.signature.Goals as goal

-- a key of height 2 has four leaves
pub sign_request-requires-clause-leaf : goal.sign_request-requires-clause-leaf
sign_request-requires-clause-leaf c =
    subst (λ (h : ℕ). c.args.number < 2 ^ h) (sym c.in_ok-keys.ensures) c.requires
