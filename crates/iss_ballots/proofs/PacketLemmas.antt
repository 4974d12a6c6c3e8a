-- The contents of packets, and the signatures that they claim.
use Rattle.std.proofs.Common.{◌≡◌, ℕ, ◌+◌, ◌<◌, List, [], ◌∷◌, ◌++◌, Some, None, length, take, get_or, refl, sym, ap, ◌∙◌, add-one}
use Rattle.std.proofs.Math.Seq.{take-suc}
use Rattle.iss_sb.specs.declared.signers.Signed.{Signed}
use Rattle.iss_rules.specs.Formats.{whole}
use Rattle.iss_rules.specs.Votes.{claims_by}
use Rattle.iss_request.specs.Fields.{Bad, Good, IsBad, Parsed}
use Rattle.iss_request.specs.Parsing as parsing
use Rattle.iss_request.specs.Parsing.{Parser, all_of}
use Rattle.iss_sb.specs.declared.effects.Claim.{Claim}

all_of-good : {A : Type 0} (parse : Parser A) (bytes : List ℕ) (x : A) → parse bytes ≡ Good x [] → all_of parse bytes ≡ Good x []
unfolding all_of parsing.◌>>=◌ parsing.at_end
all_of-good parse bytes x e = rw e refl

-- Bytes that do not decode are not whole.
pub all-whole : {A : Type 0} (parse : Parser A) (bytes : List ℕ) → IsBad (all_of parse bytes) → whole (parse bytes) ≡ None
all-whole {A} parse bytes h = go (parse bytes) refl
  where
    go : (p : Parsed A) → parse bytes ≡ p → whole p ≡ None
    go (Good thing []) e = let good : all_of parse bytes ≡ Good thing [] = all_of-good parse bytes thing e in let bad = h.1 in cc
    go (Good thing (b ∷ rest)) e = refl
    go (Bad at) e = refl

-- Bytes that decode with no rest are whole.
pub good-whole : {A : Type 0} (p : Parsed A) (x : A) → p ≡ Good x [] → whole p ≡ Some x
good-whole p x e = rw e refl

claims-append : (st : List ℕ) (xs ys : List Signed) → claims_by st (xs ++ ys) ≡ claims_by st xs ++ claims_by st ys
claims-append st [] ys = refl
claims-append st (x ∷ xs) ys = ap (λ (zs : List Claim). record { by = x.by; statement = st; sig = x.sig } ∷ zs) (claims-append st xs ys)

-- One more signer.
pub claims-next : (st : List ℕ) (xs : List Signed) (i : ℕ) (x : Signed) → i < length xs → x ≡ get_or xs i x →
    claims_by st (take i xs) ++ record { by = x.by; statement = st; sig = x.sig } ∷ [] ≡ claims_by st (take (i + 1) xs)
claims-next st xs i x lt is =
    let q : take (i + 1) xs ≡ take i xs ++ x ∷ [] = rw add-one (take-suc xs i x lt ∙ ap (λ (y : Signed). take i xs ++ y ∷ []) (sym is)) in
    sym (ap (λ (ys : List Signed). claims_by st ys) q ∙ claims-append st (take i xs) (x ∷ []))
