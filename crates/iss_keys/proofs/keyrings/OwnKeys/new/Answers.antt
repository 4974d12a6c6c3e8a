use Rattle.std.proofs.Common.{◌≡◌, arith, refl, ap, ◌∙◌, length-append}
use Rattle.std.proofs.lemmas.List.{map-append, length-map}
use Rattle.iss_keys.specs.Internal.Rings.{ring_seed}
use Rattle.iss_keys.proofs.RingLemmas.{ring_none, ring_more}
use Rattle.iss_keys.proofs.keyrings.OwnKeys.new.Goals as goal

pub numbers-init : goal.numbers-init
numbers-init c = rw c.in_ok-trees.ensures.items (
  refl,
  ring_none c.args.kind c.args.height.levels c.args.height.is_height,
)

pub numbers-preserved : goal.numbers-preserved
numbers-preserved c =
    let own : c.in_ok-key.key.value ≡ ring_seed c.args.kind c.args.height.levels c.numbers.number =
    c.in_ok-key.ensures.ok ∙ c.new.ensures
    ∙ ap (λ s. record { secret = s; height = c.args.height.levels }) c.secret_of-secret.ensures in
    let before = c.numbers.invariant in
    rw (c.in_ok-push.ensures.items, length-append, map-append) (
      omega (arith, before.0),
      ring_more c.args.kind c.args.height.levels c.numbers.number _ c.in_ok-key.key.value
          (length-map c.numbers.trees.items (λ trees. trees.value) ∙ before.0) own before.1,
    )
