use Rattle.std.proofs.Common.{◌≡◌, ℕ, suc, Bool, true, List, [], ◌∷◌, refl}
use Rattle.iss_request.specs.declared.requests.Request.{Request}
use Rattle.iss_buckets.specs.Waiting.{cut, uncut}

-- ---- the steps of a cut

pub cut-hit : (p : Request → Bool) (n : ℕ) (x : Request) (r : List Request) → p x ≡ true → cut (suc n) p (x ∷ r) ≡ x ∷ cut n p r
cut-hit p n x r h = rw h

pub uncut-hit : (p : Request → Bool) (n : ℕ) (x : Request) (r : List Request) → p x ≡ true → uncut (suc n) p (x ∷ r) ≡ uncut n p r
uncut-hit p n x r h = rw h

pub cut-zero : (p : Request → Bool) (qs : List Request) → cut 0 p qs ≡ []
cut-zero p [] = refl
cut-zero p (q ∷ qs) = refl

pub uncut-zero : (p : Request → Bool) (qs : List Request) → uncut 0 p qs ≡ qs
uncut-zero p [] = refl
uncut-zero p (q ∷ qs) = refl
