-- Logs in the order of their slots, oldest first.
use Rattle.std.proofs.Common.{◌≡◌, inl, inr, List, [], ◌∷◌, ◌++◌, reverse, sym, ap, ◌∙◌, subst}
use Rattle.std.proofs.lemmas.List.{append_assoc, reverse-append, reverse-reverse}
use Rattle.iss_base.specs.Lists.{Extends, In}
use Rattle.iss_base.proofs.Lists.{different-append, different-apart, different-left, different-right, in_append, in_left, in_right}
use Rattle.iss_request.specs.Log.{Once, log_ids, value_ids}
use Rattle.iss_request.specs.declared.ids.ReqId.{ReqId}
use Rattle.iss_request.specs.declared.requests.Value.{Value}
use Rattle.iss_model.specs.Runs.{IsPrefix}
use Rattle.iss_rules.proofs.Ids.{log_ids-append}

pub turned : (a b : List Value) → Extends a b → IsPrefix (reverse a) (reverse b)
turned a b x = (reverse x.0, ap (λ (t : List Value). reverse t) x.1 ∙ reverse-append x.0 a)

-- reversing a log keeps its identities
in-turned : (x : ReqId) (log : List Value) → In x (log_ids (reverse log)) → In x (log_ids log)
in-turned x [] h = h
in-turned x (v ∷ log) h =
    let k : In x (log_ids (reverse log ++ (v ∷ []))) = subst (λ (t : List Value). In x (log_ids t)) (reverse-append (v ∷ []) log) h in
    elim (log_ids-append x (reverse log) (v ∷ []) k) [
      | inl a ↦ in_right x (value_ids v) (log_ids log) (in-turned x log a)
      | inr b ↦ elim (in_append x (value_ids v) [] b) [ inl y ↦ in_left x (value_ids v) (log_ids log) y | inr n ↦ absurd n ]
    ]

once-append : (a b : List Value) → Once a → Once b → ((x : ReqId) → In x (log_ids a) → In x (log_ids b) → ⊥) → Once (a ++ b)
once-append [] b oa ob apart = ob
once-append (v ∷ a) b oa ob apart = different-append (value_ids v) (log_ids (a ++ b)) (different-left (value_ids v) (log_ids a) oa)
    (once-append a b (different-right (value_ids v) (log_ids a) oa) ob (λ x i. apart x (in_right x (value_ids v) (log_ids a) i)))
    (λ x i j. elim (log_ids-append x a b j) [
      | inl k ↦ different-apart (value_ids v) (log_ids a) oa x i k
      | inr k ↦ apart x (in_left x (value_ids v) (log_ids a) i) k
    ])

-- each of which occurs once in it
pub once-turned : (log : List Value) → Once log → Once (reverse log)
once-turned [] h = h
once-turned (v ∷ log) h = subst (λ (t : List Value). Once t) (sym (reverse-append (v ∷ []) log)) (once-append (reverse log) (v ∷ [])
    (once-turned log (different-right (value_ids v) (log_ids log) h))
    (different-append (value_ids v) [] (different-left (value_ids v) (log_ids log) h) tt (λ z i j. j))
    (λ x i j. elim (in_append x (value_ids v) [] j) [ inl y ↦ different-apart (value_ids v) (log_ids log) h x y (in-turned x log i) | inr n ↦ absurd n ]))

-- a log that is cut after a value, newest first
pub turned-cut : (log front back : List Value) (v : Value) → reverse log ≡ front ++ v ∷ back → Extends (v ∷ reverse front) log
turned-cut log front back v is = (
  reverse back,
  sym (reverse-reverse log) ∙ ap (λ (t : List Value). reverse t) is ∙ reverse-append front (v ∷ back)
      ∙ ap (λ (t : List Value). t ++ reverse front) (reverse-append (v ∷ []) back) ∙ append_assoc (reverse back) (v ∷ []) (reverse front),
)
