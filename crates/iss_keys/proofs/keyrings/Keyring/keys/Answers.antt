use Rattle.std.proofs.Common.{◌≡◌, ◌∙◌, ◌∷◌, [], ap, sym}
use Rattle.std.specs.Prelude.{Some, slice_get}
use Rattle.std.proofs.lemmas.Option.{slice_get-get_or}
use Rattle.sha2.specs.Sha256.{sha256}
use Rattle.iss_keys.proofs.RingLemmas.{keys_listed, listed_below, lone_is}
use Rattle.iss_keys.proofs.keyrings.Keyring.keys.Goals as goal

pub of-requires-in-Own : goal.of-requires-in-Own
of-requires-in-Own c =
    let keys = c.in-Own.keys in
    rw (c.trees_of_kind.ensures) (listed_below (λ i. sha256 (keys.kind ∷ i ∷ [])) keys.height keys.count c.args.number
    c.args.next
    (rw (← c.self.view_is, c.in-Own.is) at c.requires.number) (rw (← c.self.view_is, c.in-Own.is) at c.requires.next))

pub returns-in-Own : goal.returns-in-Own
returns-in-Own c =
    let keys = c.in-Own.keys in
    rw (← c.self.view_is, c.in-Own.is)
    (keys_listed (λ i. sha256 (keys.kind ∷ i ∷ [])) keys.height keys.count c.args.number c.args.next
    (sha256 (c.args.kind ∷ c.args.number ∷ [])) c.of-in-Own.result
    (rw (← c.self.view_is, c.in-Own.is) at c.requires.number)
    (c.of-in-Own.ensures ∙ ap (λ t. record { secret = t.secret; height = t.height; used = c.args.next })
    c.trees_of_kind.ensures))

pub returns-in-Given : goal.returns-in-Given
returns-in-Given c =
    let at : slice_get c.args.self.now c.args.number ≡ Some c.index.result.now =
    rw (← c.self.view_is, c.in-Given.is)
    (slice_get-get_or c.in-Given.keys.items c.args.number c.index.result.now
    (rw (← c.self.view_is, c.in-Given.is) at c.requires.number) ∙ ap Some (sym c.index.ensures)) in
    lone_is c.args.self.now c.args.number c.args.next (sha256 (c.args.kind ∷ c.args.number ∷ []))
    c.levels-height.result.levels c.index.result.now c.of.result at c.levels-height.ensures
    (c.of.ensures ∙ ap (λ t. record { secret = t.secret; height = t.height; used = c.args.next }) c.lone_trees.ensures)
