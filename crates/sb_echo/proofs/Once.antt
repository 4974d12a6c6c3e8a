-- Each leaf signs one statement in a step of echo, and no claim is forwarded.
use Rattle.std.proofs.Common.{◌≡◌, ◌∙◌, ◌+◌, ℕ, Bool, true, false, List, [], ◌∷◌, length, Option, Some, None, refl, sym, ap, subst, inl, inr, add-zero}
use Rattle.std.specs.Prelude.{slice_get}
use Rattle.iss_base.specs.Lists.{In}
use Rattle.iss_request.specs.declared.ids.Slot.{Slot}
use Rattle.iss_request.specs.declared.requests.Batch.{Batch}
use Rattle.iss_sb.specs.declared.effects.Claim.{Claim}
use Rattle.iss_sb.specs.declared.effects.Params.{Params}
use Rattle.iss_sb.specs.declared.effects.To.{To}
use Rattle.iss_sb.specs.Laws.{IsSignedBy, SignsOnce}
use Rattle.iss_sb.specs.Statements.{claim, signature}
use Rattle.sb_echo.specs.declared.word.Word.{Word}
use Rattle.sb_echo.specs.Echo.{asks, claims, digest_of, echo, echo_of, is_cast, made_of, say, statement}

module _ (p : Params) (me leaf : ℕ) where
  abbrev said : Slot × Batch → List ℕ
  said a = statement p 1 a.0.0 (digest_of p a.1)

  abbrev echoed : Slot × Batch → List ℕ
  echoed a = statement p 2 a.0.0 (digest_of p a.1)

  -- what is signed, in the order of the leaves
  abbrev signed : Bool → Option (Slot × Batch) → List (List ℕ)
  signed cast None = []
  signed true (Some a) = said a ∷ echoed a ∷ []
  signed false (Some a) = echoed a ∷ []

  each : (cast : Bool) (o : Option (Slot × Batch)) → length (signed cast o) ≡ (made_of p me leaf cast o).used
  each cast None = refl
  each true (Some a) = refl
  each false (Some a) = refl

  by-leaf : (at : ℕ) (statements : List (List ℕ)) (st : List ℕ) (c : Claim) → slice_get statements at ≡ Some st →
      In c (claim me st (signature p me (leaf + at) st) ∷ []) → IsSignedBy p me leaf statements c
  by-leaf at statements st c there (inl e) =
      let same : st ≡ c.statement = sym (ap (λ (z : Claim). z.statement) e) in
      record { place = at; statement = there ∙ ap Some same; signature = ap (λ (z : Claim). z.sig) e ∙ ap (λ (t : List ℕ). signature p me (leaf + at) t) same }
  by-leaf at statements st c there (inr h) = absurd h

  first-leaf : (statements : List (List ℕ)) (st : List ℕ) (c : Claim) → slice_get statements 0 ≡ Some st →
      In c (claim me st (signature p me leaf st) ∷ []) → IsSignedBy p me leaf statements c
  first-leaf statements st c there h =
      by-leaf 0 statements st c there (subst (λ (q : ℕ). In c (claim me st (signature p me q st) ∷ [])) (sym (add-zero leaf)) h)

  same-message : (to there : To) (msg other : Word) (c : Claim) → ◌≡◌ {A = To × Word} (to, msg) (there, other) →
      In c (claims p me msg) → In c (claims p me other)
  same-message to there msg other c e h = subst (λ (z : To × Word). In c (claims p me z.1)) e h

  own : (cast : Bool) (o : Option (Slot × Batch)) (to : To) (msg : Word) (c : Claim) →
      In {A = To × Word} (to, msg) (made_of p me leaf cast o).sends →
      In c (claims p me msg) → IsSignedBy p me leaf (signed cast o) c
  own cast None to msg c h k = absurd h
  own true (Some a) to msg c (inl e) k = first-leaf (signed true (Some a)) (said a) c refl (same-message to _ msg (say p me leaf a) c e k)
  own true (Some a) to msg c (inr (inl e)) k = by-leaf 1 (signed true (Some a)) (echoed a) c refl (same-message to _ msg (echo_of p me (leaf + 1) a) c e k)
  own true (Some a) to msg c (inr (inr h)) k = absurd h
  own false (Some a) to msg c (inl e) k = first-leaf (signed false (Some a)) (echoed a) c refl (same-message to _ msg (echo_of p me leaf a) c e k)
  own false (Some a) to msg c (inr h) k = absurd h

pub echo-once : SignsOnce echo
echo-once p me xs i leaf good made =
    let cast = is_cast i in
    let o = asks p me xs i in
    record { statements = signed p me leaf cast o; each = each p me leaf cast o; own = λ c by g. inl (own p me leaf cast o g.to g.msg c g.sent g.holds) }
