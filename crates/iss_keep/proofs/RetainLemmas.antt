-- What a journal shows of what was stored, and of one entry more. In what it shows no snapshot stands behind an event.
use Rattle.std.proofs.Common.{◌≡◌, ◌||◌, ℕ, zero, suc, ◌<◌, ◌≤◌, Bool, true, false, not, cond, List, [], ◌∷◌, ◌++◌, length, get_or, reverse, refl, sym, ap, ◌∙◌, arith, true≢false}
use Rattle.std.proofs.lemmas.List.{reverse-append, reverse-reverse}
use Rattle.iss_journal.proofs.Retaining.{retained-again}
use Rattle.iss_journal.specs.Retained.{has_snapshot, is_snapshot, retained}
use Rattle.iss_keep.specs.Cores.{shown_of}
use Rattle.iss_keep.specs.Entries.{spell_event}
use Rattle.iss_rebuilt.specs.Stored.{Stored}
use Rattle.iss_rules.specs.declared.events.NodeEvent.{NodeEvent}
use Rattle.iss_rules.specs.declared.events.NodeEvent.TheVariants.{AskFrom as On_ask, Packet as On_packet, Propose as On_propose, Timeout as On_timeout}

pub no-snapshot : (event : NodeEvent) → is_snapshot (spell_event event) ≡ false
no-snapshot (On_packet bytes) = refl
no-snapshot On_propose = refl
no-snapshot (On_timeout leader) = refl
no-snapshot (On_ask peer) = refl

-- one entry more
pub shows-more : {Msg : Type 0} (st next : Stored Msg) (entries : List (List ℕ)) (entry : List ℕ) → entries ≡ shown_of st →
    next.entries ≡ entry ∷ st.entries → retained (entries ++ entry ∷ []) ≡ shown_of next
shows-more st next entries entry shown more =
    ap (λ (es : List (List ℕ)). retained (es ++ entry ∷ [])) shown
    ∙ (retained-again (reverse st.entries) (entry ∷ [])
    ∙ ap retained (sym (ap (λ (es : List (List ℕ)). reverse es) more ∙ reverse-append (entry ∷ []) st.entries)))

-- entries that all stay are shown as they are
pub shows-read : (entries : List (List ℕ)) → retained entries ≡ entries → entries ≡ retained (reverse (reverse entries))
shows-read entries stay = sym (ap retained (reverse-reverse entries) ∙ stay)

-- ---- behind an event

retained-few : (xs : List (List ℕ)) → length (retained xs) ≤ length xs
retained-few [] = omega arith
retained-few (x ∷ xs) = go (is_snapshot x || not (has_snapshot xs)) (retained-few xs)
  where
    go : (b : Bool) → length (retained xs) ≤ length xs → length (cond b (x ∷ retained xs) (retained xs)) ≤ suc (length xs)
    go true le = omega (arith, le)
    go false le = omega (arith, le)

-- the first of entries that all stay: it is a snapshot, or none follows; and the others stay
record IsFirst (x : List ℕ) (xs : List (List ℕ)) : Type 0 where
  rest : retained xs ≡ xs
  none : is_snapshot x ≡ false → has_snapshot xs ≡ false

first-of : (x : List ℕ) (xs : List (List ℕ)) → retained (x ∷ xs) ≡ x ∷ xs → IsFirst x xs
first-of x xs h = go (is_snapshot x) (has_snapshot xs) refl refl h
  where
    tail : (ps qs : List (List ℕ)) → ◌≡◌ {A = List (List ℕ)} (x ∷ ps) (x ∷ qs) → ps ≡ qs
    tail ps qs q = cc

    go : (a b : Bool) → is_snapshot x ≡ a → has_snapshot xs ≡ b → cond (a || not b) (x ∷ retained xs) (retained xs) ≡ x ∷ xs → IsFirst x xs
    go true b p q k = record { rest = tail (retained xs) xs k; none = λ z. absurd (true≢false (sym p ∙ z)) }
    go false false p q k = record { rest = tail (retained xs) xs k; none = λ z. q }
    go false true p q k =
        let few = retained-few xs in
        let same : length (retained xs) ≡ suc (length xs) = ap (λ (ys : List (List ℕ)). length ys) k in
        absurd (omega (arith, few, same))

is-none : (xs : List (List ℕ)) (k : ℕ) → has_snapshot xs ≡ false → k < length xs → is_snapshot (get_or xs k []) ≡ false
is-none [] k h lt = absurd (omega (arith, lt))
is-none (x ∷ xs) zero h lt = go (is_snapshot x) h
  where
    go : (a : Bool) → (a || has_snapshot xs) ≡ false → a ≡ false
    go true q = absurd (true≢false q)
    go false q = refl
is-none (x ∷ xs) (suc k) h lt = is-none xs k (go (is_snapshot x) h) (omega (arith, lt))
  where
    go : (a : Bool) → (a || has_snapshot xs) ≡ false → has_snapshot xs ≡ false
    go true q = absurd (true≢false q)
    go false q = q

pub behind-event : (xs : List (List ℕ)) (j k : ℕ) → retained xs ≡ xs → is_snapshot (get_or xs j []) ≡ false → j ≤ k → k < length xs →
    is_snapshot (get_or xs k []) ≡ false
behind-event [] j k stay h le lt = absurd (omega (arith, lt))
behind-event (x ∷ xs) zero zero stay h le lt = h
behind-event (x ∷ xs) zero (suc k) stay h le lt = is-none xs k ((first-of x xs stay).none h) (omega (arith, lt))
behind-event (x ∷ xs) (suc j) zero stay h le lt = absurd (omega (arith, le))
behind-event (x ∷ xs) (suc j) (suc k) stay h le lt = behind-event xs j k (first-of x xs stay).rest h (omega (arith, le)) (omega (arith, lt))
