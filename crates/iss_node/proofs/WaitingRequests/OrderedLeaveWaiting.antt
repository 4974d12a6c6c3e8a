-- The effect of a longer log on waiting requests and on the identities of the log.
use Rattle.std.proofs.Common.{◌≡◌, Bool, true, false, List, [], ◌∷◌, ◌++◌, ◌||◌, length, reverse, refl, sym, ap, ◌∙◌, append_assoc}
use Rattle.std.specs.Prelude.{fold}
use Rattle.std.proofs.lemmas.List.{append-nil, reverse-append}
use Rattle.iss_buckets.specs.Waiting.{absent}
use Rattle.iss_buckets.proofs.WaitingLemmas.{absent_none}
use Rattle.iss_window.proofs.Members.{has_id-and_ids, has_id-append}
use Rattle.iss_model.proofs.Casts.{joined-newer}
use Rattle.iss_model.specs.Node.{joined}
use Rattle.iss_node.specs.Internal.Growth.{and_values, waits_on}
use Rattle.iss_segment.specs.Instance.{SameIds}
use Rattle.iss_request.specs.Log.{has_id, ids, log_ids, value_ids}
use Rattle.iss_request.specs.declared.ids.ReqId.{ReqId}
use Rattle.iss_request.specs.declared.requests.Request.{Request}
use Rattle.iss_request.specs.declared.requests.Value.{Value}
use Rattle.iss_request.specs.declared.requests.Value.TheVariants.{Nil as Value_nil, Batch as Value_batch}
use Rattle.iss_base.proofs.Lists.{or-flip}

pub log_ids-append : (a b : List Value) → log_ids (a ++ b) ≡ log_ids a ++ log_ids b
log_ids-append [] b = refl
log_ids-append (v ∷ a) b = ap (λ xs. value_ids v ++ xs) (log_ids-append a b) ∙ sym (append_assoc (value_ids v) (log_ids a) (log_ids b))

-- Removing two lists in turn removes their concatenation.
absent-both : (a b : List ReqId) (qs : List Request) → absent a (absent b qs) ≡ absent (a ++ b) qs
absent-both a b [] = refl
absent-both a b (q ∷ qs) = go (has_id q.id b) refl (has_id q.id a) refl (absent-both a b qs) (has_id-append q.id a b)
  where
    go : (x : Bool) → has_id q.id b ≡ x → (y : Bool) → has_id q.id a ≡ y → absent a (absent b qs) ≡ absent (a ++ b) qs → has_id q.id (a ++ b) ≡ (has_id q.id a || has_id q.id b) → absent a (absent b (q ∷ qs)) ≡ absent (a ++ b) (q ∷ qs)
    go true hb true ha more both = rw (both, ha, hb) more
    go true hb false ha more both = rw (both, ha, hb) more
    go false hb true ha more both = rw (both, ha, hb, ha) more
    go false hb false ha more both = rw (both, ha, hb, ha) (ap (λ xs. q ∷ xs) more)

waits-absent : (v : Value) (g : List ReqId) (qs : List Request) → waits_on (absent g qs) v ≡ absent (value_ids v ++ g) qs
waits-absent Value_nil g qs = refl
waits-absent (Value_batch b) g qs = absent-both (ids b) g qs

turned : (v : Value) (vs : List Value) (g : List ReqId) → log_ids (reverse vs) ++ (value_ids v ++ g) ≡ log_ids (reverse (v ∷ vs)) ++ g
turned v vs g =
    sym (append_assoc (log_ids (reverse vs)) (value_ids v) g)
    ∙ ap (λ xs. xs ++ g) (ap (λ xs. log_ids (reverse vs) ++ xs) (sym (append-nil (value_ids v))) ∙ sym (log_ids-append (reverse vs) (v ∷ [])) ∙ ap (λ xs. log_ids xs) (sym (reverse-append (v ∷ []) vs)))

wait-all : (vs : List Value) (g : List ReqId) (qs : List Request) → fold waits_on (absent g qs) vs ≡ absent (log_ids (reverse vs) ++ g) qs
wait-all [] g qs = refl
wait-all (v ∷ vs) g qs =
    ap (λ (xs : List Request). fold waits_on xs vs) (waits-absent v g qs)
    ∙ wait-all vs (value_ids v ++ g) qs
    ∙ ap (λ (xs : List ReqId). absent xs qs) (turned v vs g)

has_id-values : (x : ReqId) (xs : List ReqId) (v : Value) → has_id x (and_values xs v) ≡ (has_id x xs || has_id x (value_ids v))
has_id-values x xs Value_nil = grown (has_id x xs)
  where
    grown : (b : Bool) → b ≡ (b || false)
    grown true = refl
    grown false = refl
has_id-values x xs (Value_batch b) = has_id-and_ids x xs b

or-turn : (a b c : Bool) → ((a || b) || c) ≡ (a || (c || b))
or-turn true b c = refl
or-turn false true true = refl
or-turn false true false = refl
or-turn false false true = refl
or-turn false false false = refl

pub note-all : (x : ReqId) (vs : List Value) (xs : List ReqId) → has_id x (fold and_values xs vs) ≡ (has_id x xs || has_id x (log_ids (reverse vs)))
note-all x [] xs = none (has_id x xs)
  where
    none : (b : Bool) → b ≡ (b || false)
    none true = refl
    none false = refl
note-all x (v ∷ vs) xs =
    note-all x vs (and_values xs v)
    ∙ ap (λ b. b || has_id x (log_ids (reverse vs))) (has_id-values x xs v)
    ∙ or-turn (has_id x xs) (has_id x (value_ids v)) (has_id x (log_ids (reverse vs)))
    ∙ ap (λ b. has_id x xs || b) (sym (has_id-append x (log_ids (reverse vs)) (value_ids v)) ∙ ap (λ ys. has_id x ys) (ap (λ ys. log_ids (reverse vs) ++ ys) (sym (append-nil (value_ids v))) ∙ sym (log_ids-append (reverse vs) (v ∷ [])) ∙ ap (λ ys. log_ids ys) (sym (reverse-append (v ∷ []) vs))))

-- With a log that was `old` and was extended by `more`, in slot order.
module _ (old more : List Value) where
  newest : reverse (old ++ more) ≡ reverse more ++ reverse old
  newest = reverse-append old more

  joined-is : joined (length (reverse old)) (reverse (old ++ more)) ≡ reverse more
  joined-is = ap (λ xs. joined (length (reverse old)) xs) newest ∙ joined-newer (reverse more) (reverse old)

  pub waiting-is : (qs : List Request) → fold waits_on qs more ≡ absent (log_ids (joined (length (reverse old)) (reverse (old ++ more)))) qs
  waiting-is qs =
      ap (λ (xs : List Request). fold waits_on xs more) (sym (absent_none qs))
      ∙ wait-all more [] qs
      ∙ ap (λ (xs : List ReqId). absent xs qs) (append-nil (log_ids (reverse more)) ∙ ap (λ (xs : List Value). log_ids xs) (sym joined-is))

  pub logged-is : (logged : List ReqId) → SameIds logged (log_ids (reverse old)) → SameIds (fold and_values logged more) (log_ids (reverse (old ++ more)))
  logged-is logged same = λ x.
      note-all x more logged
      ∙ ap (λ b. b || has_id x (log_ids (reverse more))) (same x)
      ∙ or-flip (has_id x (log_ids (reverse old))) (has_id x (log_ids (reverse more)))
      ∙ sym (has_id-append x (log_ids (reverse more)) (log_ids (reverse old)))
      ∙ ap (λ (ys : List ReqId). has_id x ys) (sym (log_ids-append (reverse more) (reverse old)) ∙ ap (λ (ys : List Value). log_ids ys) (sym newest))
