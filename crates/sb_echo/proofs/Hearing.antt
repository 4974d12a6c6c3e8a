-- One echo more in the set of received echoes.
use Rattle.std.proofs.Common.{◌≡◌, Bool, true, false, ◌==◌, ◌&&◌, refl, ap, ◌∙◌}
use Rattle.std.specs.Cmp.Lexicographic.{slice_cmp}
use Rattle.std.specs.Ordering.{is_eq, nat_cmp, ordering_then}
use Rattle.iss_sb.proofs.Cases.{both_equal, same_list, same_number}
use Rattle.sb_echo.specs.declared.echoes.Heard.{Heard}
use Rattle.iss_base.specs.Lists.{same_bytes}
use Rattle.sb_echo.specs.Heard.{order}

swapped : (a b c : Bool) → (a && (b && c)) ≡ (b && (a && c))
swapped true true c = refl
swapped true false c = refl
swapped false true c = refl
swapped false false c = refl

pub same_heard : (a b : Heard) →
    is_eq (order a b) ≡ ((a.from == b.from) && ((a.slot == b.slot) && same_bytes a.digest b.digest))
same_heard a b =
    let slots = same_number a.slot b.slot in
    let nodes = same_number a.from b.from in
    let digests = same_list a.digest b.digest in
    both_equal (nat_cmp a.slot b.slot) (ordering_then (nat_cmp a.from b.from) (slice_cmp nat_cmp a.digest b.digest))
    ∙ ap (λ t. is_eq (nat_cmp a.slot b.slot) && t) (both_equal (nat_cmp a.from b.from) (slice_cmp nat_cmp a.digest b.digest))
    ∙ rw (slots, nodes, digests) (swapped (a.slot == b.slot) (a.from == b.from) (same_bytes a.digest b.digest))
