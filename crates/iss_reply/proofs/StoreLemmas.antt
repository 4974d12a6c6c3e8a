-- What the keys of a store hold, given the entries of its map.
use Rattle.std.proofs.Common.{◌≡◌, refl, sym, ap, subst, ◌∙◌, ⊎_elim, ℕ, true, false, cond, List, [], ◌∷◌, Option, Some}
use Rattle.std.proofs.lemmas.Bool.{cases_Bool, cond-true, cond-false}
use Rattle.std.specs.Cmp.Lexicographic.{pointwise, bytes_decides, nat_list_eq_equiv}
use Rattle.std.specs.Global.{Vec}
use Rattle.std.specs.Map.{lookup, KeepsOthers}
use Rattle.std.specs.Prelude.{nat_eq}
use Rattle.std.specs.Str.{bytes_eq}
use Rattle.iss_reply.specs.Internal.Held.{held_in, stored}

-- a search in the map finds what the key holds
pub held-found : (es : List (Vec ℕ × List ℕ)) (key : List ℕ) → lookup (λ k. bytes_eq key k.items) es ≡ held_in (stored es) key
held-found [] key = refl
held-found (e ∷ es) key = ap (λ o. cond (bytes_eq key e.0.items) (Some e.1) o) (held-found es key)

apart : (bs cs ks : List ℕ) → bytes_eq bs cs ≡ false → bytes_eq bs ks ≡ true → bytes_eq cs ks ≡ false
apart bs cs ks n y = nat_list_eq_equiv.symm cs ks ∙ sym (nat_list_eq_equiv.congr bs ks cs y) ∙ n

others-kept : (bs cs : List ℕ) (old new : List (Vec ℕ × List ℕ)) → KeepsOthers (λ x y. pointwise nat_eq x.items y.items) (λ k. pointwise nat_eq bs k.items) old new
    → bytes_eq bs cs ≡ false → lookup (λ k. bytes_eq cs k.items) new ≡ lookup (λ k. bytes_eq cs k.items) old
unfolding KeepsOthers
others-kept bs cs old new h n = h (λ k. bytes_eq cs k.items) (λ x y. nat_list_eq_equiv.congr cs x.items y.items) (λ k. apart bs cs k.items n)

-- after a change at one key, it holds what was put there, and the others what they held
pub held-changed : (bs : List ℕ) (old new : List (Vec ℕ × List ℕ)) (w : Option (List ℕ)) → lookup (λ k. pointwise nat_eq bs k.items) new ≡ w
    → KeepsOthers (λ x y. pointwise nat_eq x.items y.items) (λ k. pointwise nat_eq bs k.items) old new
    → (cs : List ℕ) → held_in (stored new) cs ≡ cond (bytes_eq bs cs) w (held_in (stored old) cs)
held-changed bs old new w here kept cs =
    ⊎_elim
    (λ y.
    subst (λ l. held_in (stored new) l ≡ w) ((bytes_decides bs cs).0 y) (sym (held-found new bs) ∙ here)
    ∙ sym (cond-true (bytes_eq bs cs) w (held_in (stored old) cs) y))
    (λ n.
    sym (held-found new cs) ∙ others-kept bs cs old new kept n ∙ held-found old cs
    ∙ sym (cond-false (bytes_eq bs cs) w (held_in (stored old) cs) n))
    (cases_Bool (bytes_eq bs cs))
