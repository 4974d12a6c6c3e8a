use Rattle.std.proofs.Common.{◌≡◌, ◌+◌, ◌-◌, ◌*◌, ◌<◌, ◌≤◌, ◌^◌, length, arith, refl, add-one}
use Rattle.std.proofs.Math.ListN.{length-set}
use Rattle.std.proofs.Math.Nat.{pow-succ'}
use Rattle.iss_keys.proofs.TreeLemmas.{leaves_are_nodes, node_more}
use Rattle.iss_keys.proofs.tree.fill_tree.Goals as goal

pub inner-init : goal.inner-init
inner-init c =
    let whole : 2 ^ (c.args.height.levels + 1) ≡ 2 * 2 ^ c.args.height.levels = rw add-one (pow-succ' 2 c.args.height.levels) in (
      omega (arith, c.leaves.auto.nodes, c.requires.size, c.leaves_under-leaves.ensures.value),
      leaves_are_nodes c.args.secret.now c.args.height.levels c.leaves_under-leaves.result c.leaves.nodes
          c.leaves_under-leaves.ensures.value
          (λ p lt. let here : p < c.leaves.q = omega arith in c.leaves.invariant p here),
    )

pub inner-preserved : goal.inner-preserved
inner-preserved c =
    let i_low : 1 ≤ c.inner.i - 1 = omega arith in
    let i_high : c.inner.i - 1 < 2 ^ c.args.height.levels = omega (arith, c.leaves_under-leaves.ensures.value) in
    let within : c.inner.i - 1 < length c.inner.nodes = omega (arith, c.inner.invariant.0) in (
      simp length-set (c.inner.invariant.0),
      rw c.inner_node.ensures (node_more c.args.secret.now c.args.height.levels
          (c.inner.i - 1) c.inner.nodes _ _ i_low i_high within
          (λ k p le lt at. let above : c.inner.i ≤ 2 ^ (c.args.height.levels - k) + p = omega arith in
          c.inner.invariant.1 k p le lt above)
          refl refl),
    )
