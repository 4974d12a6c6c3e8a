-- Lists of values in reverse order.
use Rattle.std.proofs.Common.{◌≡◌, List, [], ◌∷◌, ◌++◌, reverse, refl, sym, ap, ◌∙◌, append_assoc}
use Rattle.std.proofs.lemmas.List.{reverse-append, reverse-reverse}
use Rattle.iss_base.specs.Lists.{push_all}
use Rattle.iss_request.specs.declared.requests.Value.{Value}

-- newest first, a value comes last
pub newest-last : (v : Value) (older : List Value) → reverse (v ∷ older) ≡ reverse older ++ v ∷ []
newest-last v older = reverse-append (v ∷ []) older

pub over-is : (vs log : List Value) → push_all vs log ≡ reverse vs ++ log
over-is [] log = refl
over-is (v ∷ vs) log =
    over-is vs (v ∷ log) ∙ (sym (append_assoc (reverse vs) (v ∷ []) log) ∙ ap (λ (t : List Value). t ++ log) (sym (newest-last v vs)))

pub over-turned : (newer old : List Value) → push_all (reverse newer) old ≡ newer ++ old
over-turned newer old = over-is (reverse newer) old ∙ ap (λ (t : List Value). t ++ old) (reverse-reverse newer)
