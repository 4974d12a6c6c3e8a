use Rattle.std.proofs.Common.{◌≡◌, ℕ, ◌+◌, ◌<◌, List, [], ◌∷◌, ◌++◌, None, length, take, get_or, refl, sym, ap, ◌∙◌, add-one}
use Rattle.std.proofs.Math.Seq.{take-suc}
use Rattle.iss_rules.specs.Formats.{whole}
use Rattle.iss_rules.specs.Parcels.{Formats, OfModule}
use Rattle.iss_model.specs.Node.{packed}
use Rattle.iss_request.specs.Fields.{IsUnreadable, Parsed, Reading, left}
use Rattle.iss_sb.specs.declared.effects.To.{To}

-- Bytes that do not begin with a valid encoding are not whole.
pub bad-whole : {A : Type 0} (parse : ℕ → List ℕ → Parsed A) (r : Reading) (version : ℕ) (bytes : List ℕ) (at : ℕ) → r ≡ record { version = version; all = bytes; at = 0 } → IsUnreadable (parse r.version) r at → whole (parse version bytes) ≡ None
bad-whole parse r version bytes at is h =
    let e : left r ≡ bytes = ap (λ (z : Reading). left z) is in
    let by : r.version ≡ version = ap (λ (z : Reading). z.version) is in
    ap (λ p. whole p) (ap (λ v. parse v bytes) (sym by) ∙ ap (λ bs. parse r.version bs) (sym e) ∙ h.found)

packed-append : {Msg : Type 0} (F : Formats Msg) (me e l : ℕ) (xs ys : List (To × Msg)) → packed F me e l (xs ++ ys) ≡ packed F me e l xs ++ packed F me e l ys
packed-append F me e l [] ys = refl
packed-append F me e l (x ∷ xs) ys = ap (λ zs. (x.0, F.wrap (record { from = me; epoch = e; body = OfModule l x.1 })) ∷ zs) (packed-append F me e l xs ys)

pub packed-next : {Msg : Type 0} (F : Formats Msg) (me e l : ℕ) (xs : List (To × Msg)) (i : ℕ) (x : To × Msg) → i < length xs → x ≡ get_or xs i x → packed F me e l (take i xs) ++ (x.0, F.wrap (record { from = me; epoch = e; body = OfModule l x.1 })) ∷ [] ≡ packed F me e l (take (i + 1) xs)
packed-next {Msg} F me e l xs i x lt is =
    let q : take (i + 1) xs ≡ take i xs ++ x ∷ [] = rw add-one (take-suc xs i x lt ∙ ap (λ (y : To × Msg). take i xs ++ y ∷ []) (sym is)) in
    sym (ap (λ ys. packed F me e l ys) q ∙ packed-append F me e l (take i xs) (x ∷ []))
