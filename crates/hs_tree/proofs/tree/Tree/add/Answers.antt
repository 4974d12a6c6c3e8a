use Rattle.std.proofs.Common.{◌∙◌, cond, refl, sym, ap, List, ℕ, Option, Some, arith}
use Rattle.std.specs.Cmp.Lexicographic.{slice_cmp}
use Rattle.std.specs.Ordering.{is_eq, nat_cmp}
use Rattle.iss_sb.specs.declared.content.Content.{Content}
use Rattle.hs_tree.specs.declared.tree.Known.{Known}
use Rattle.hs_tree.specs.declared.tree.Tree.{Tree}
use Rattle.hs_tree.specs.Known.{place}
use Rattle.hs_tree.specs.Tree.{weight}
use Rattle.hs_tree.proofs.Branches.{added}
use Rattle.hs_tree.proofs.tree.Tree.add.Goals as goal

pub returns : goal.returns
returns c k ks digest parent what h =
    let t = c.args.self.now in
    let u : Tree = record { nodes = c.push.new.self; places = c.insert.new.self } in
    let n : Known = record { parent = c.args.parent; what = c.args.what; above = c.place-above.result; depth = c.saturating_add-depth.result; slots = c.saturating_add-slots.result } in
    added t u k ks c.place-above.result c.depth.result c.slots_from.result c.weight.result c.len-place.result h (c.place-above.ensures ∙ ap (λ (d : List ℕ). place t d) (sym parent)) n (sym parent) (sym what) refl
    (let small = t.nodes.small in let ok = t.nodes.ok in omega (arith, small, ok.0, ok.1)) c.depth.ensures c.slots_from.ensures (c.weight.ensures ∙ ap (λ (w : Content). weight w) (sym what))
    c.saturating_add-depth.ensures c.saturating_add-slots.ensures c.in_ok-push.ensures.items (let long = c.len-place.ensures in let ok = t.nodes.ok in omega (arith, long, ok.0))
    (λ d. c.in_ok-insert.ensures.updates.0 d ∙ ap (λ (z : List ℕ). let o : Option ℕ = cond (is_eq (slice_cmp nat_cmp z d)) (Some c.len-place.result) (place t d) in o) (sym digest))
