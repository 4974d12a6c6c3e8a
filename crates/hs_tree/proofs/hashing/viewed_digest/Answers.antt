use Rattle.std.proofs.Common.{List, ℕ, [], ◌^◌, ◌<◌, ◌∙◌, ap, arith}
use Rattle.iss_request.specs.Digest.{digest}
use Rattle.hs_tree.proofs.Stated.{viewed-fed}
use Rattle.hs_tree.proofs.hashing.viewed_digest.Goals as goal

pub returns : goal.returns
returns c =
    let small : c.args.view < 2 ^ 32 = omega arith in
    let fed = c.update-5.ensures _ (c.update-4.ensures _ (c.update-3.ensures _ (c.update-2.ensures _ (c.update.ensures [] c.new-hasher.ensures)))) in
    c.finalize.ensures _ fed ∙ ap (λ (z : List ℕ). digest z) (viewed-fed c.args.version c.args.view c.kind_of.result c.args.parent.now c.value_digest-held.result c.args.what.now c.to_be_bytes.result small c.to_be_bytes.ensures c.kind_of.ensures c.value_digest-held.ensures)
