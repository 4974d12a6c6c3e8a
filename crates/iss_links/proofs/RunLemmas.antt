-- What an end has taken after any calls, and that its packets are joined of that.
use Rattle.std.proofs.Common.{◌≡◌, ◌≢◌, ℕ, zero, suc, ◌<◌, ◌≤◌, ◌==◌, ◌⊎◌, true, false, cond, List, [], ◌∷◌, ◌++◌, length, take, map, Option, Some, None, refl, ap, sym, ◌∙◌, subst, arith, inl, inr, nat_le}
use Rattle.std.proofs.lemmas.Bool.{cases_Bool, cases_lt, eq-eqb, eqb-true, false≢true}
use Rattle.std.proofs.lemmas.List.{get_or-set_same, get_or-set_other, get_or_past, map-append, set_past}
use Rattle.iss_base.specs.Lists.{In, below}
use Rattle.iss_links.specs.Frames.{Fragment, fragments, part_of, parts_of}
use Rattle.iss_links.specs.Reassembly.{IsOutcome, completed_by, partials_after}
use Rattle.iss_links.specs.Ends.{End, IsArrival, IsFirst, after_send, after_take, empty_end, end_at, first_taken, with_packet}
use Rattle.iss_links.specs.Joined.{partials_of}
use Rattle.iss_links.specs.Internal.Runs.{IsTakenAndJoined, LinkCall, ends_after, sends, taken_at, takes}
use Rattle.iss_links.specs.declared.links.Arrival.{Arrival}
use Rattle.iss_links.specs.declared.links.Arrival.TheVariants.{Got, Part, Nothing}
use Rattle.iss_links.proofs.JoinedLemmas.{Each, are-joined}

abbrev pub Within : Fragment → Type 0
Within f = f.part < f.parts

-- the partial packets of an end are those of what it took, and each fragment has an index below its count of parts
pub record Follows (e : End) (taken : List Fragment) : Type 0 where
  pub partials : e.partials ≡ partials_of taken
  pub waiting : Each Within e.waiting
  pub all : Each Within taken

each-append : {A : Type 0} (P : A → Type 0) (xs ys : List A) → Each P xs → Each P ys → Each P (xs ++ ys)
each-append {A} P [] ys h i = i
each-append {A} P (x ∷ xs) ys h i = (h.0, each-append P xs ys h.1 i)

of-each : {A : Type 0} (P : A → Type 0) (xs : List A) → Each P xs → (x : A) → In x xs → P x
of-each {A} P [] h x is = absurd is
of-each {A} P (y ∷ xs) h x (inl e) = subst P (sym e) h.0
of-each {A} P (y ∷ xs) h x (inr later) = of-each P xs h.1 x later

-- ---- sends

first-parts : (from number : ℕ) (packet : List ℕ) (n : ℕ) → n ≤ parts_of (length packet) → Each Within (map (part_of from number packet) (below n))
first-parts from number packet zero most = tt
first-parts from number packet (suc n) most =
    rw (map-append (part_of from number packet) (below n) (n ∷ [])) (each-append Within (map (part_of from number packet) (below n)) (part_of from number packet n ∷ []) (first-parts from number packet n (omega (arith, most))) (most, tt))

fragments-step : (from number : ℕ) (packet : List ℕ) → (nat_le (length packet) 200000016 ≡ true) ⊎ (nat_le (length packet) 200000016 ≡ false) → Each Within (fragments from number packet)
fragments-step from number packet (inl fits) = rw fits (first-parts from number packet (parts_of (length packet)) (omega arith))
fragments-step from number packet (inr long) = rw long tt

follows-send : (from number : ℕ) (packet : List ℕ) (e : End) (taken : List Fragment) → Follows e taken → Follows (with_packet from number packet e) taken
follows-send from number packet e taken h = record {
  partials = h.partials;
  waiting = each-append Within e.waiting (fragments from number packet) h.waiting (fragments-step from number packet (cases_Bool (nat_le (length packet) 200000016)));
  all = h.all;
}

same-end : (e new : End) (taken : List Fragment) → new ≡ e → Follows e taken → Follows new taken
same-end e new taken is h = subst (λ (x : End). Follows x taken) (sym is) h

send-step : (from number to : ℕ) (packet : List ℕ) (ends : List End) (i : ℕ) (taken : List Fragment) → Follows (end_at ends i) taken → ((to == i) ≡ true) ⊎ ((to == i) ≡ false) → (to < length ends) ⊎ (length ends ≤ to)
    → Follows (end_at (after_send from number to packet ends) i) taken
send-step from number to packet ends i taken h at (inr past) = same-end (end_at ends i) _ taken (ap (λ (es : List End). end_at es i) (set_past ends to (with_packet from number packet (end_at ends to)) past)) h
send-step from number to packet ends i taken h (inr other) (inl within) =
    let apart : i ≢ to = λ e. false≢true (sym other ∙ eq-eqb to i (sym e)) in
    same-end (end_at ends i) _ taken (get_or-set_other ends to i (with_packet from number packet (end_at ends to)) empty_end apart) h
send-step from number to packet ends i taken h (inl here) (inl within) =
    let is : to ≡ i = eqb-true to i here in
    subst (λ (k : ℕ). Follows (end_at (after_send from number to packet ends) k) taken) is
    (same-end (with_packet from number packet (end_at ends to)) _ taken (get_or-set_same ends to (with_packet from number packet (end_at ends to)) empty_end within)
    (follows-send from number packet (end_at ends to) taken (subst (λ (k : ℕ). Follows (end_at ends k) taken) (sym is) h)))

-- ---- takes

follows-first : (waiting taken : List Fragment) (e : End) → waiting ≡ e.waiting → Follows e taken → Follows (first_taken waiting e.partials) (take 1 waiting ++ taken)
follows-first [] taken e is h = record { partials = h.partials; waiting = tt; all = h.all }
follows-first (f ∷ fs) taken e is h =
    let w : Each Within (f ∷ fs) = subst (Each Within) (sym is) h.waiting in
    record { partials = ap (partials_after f) h.partials; waiting = w.1; all = (w.0, h.all) }

taken-here : (ends : List End) (i : ℕ) → (i < length ends) ⊎ (length ends ≤ i) → end_at (after_take i ends) i ≡ first_taken (end_at ends i).waiting (end_at ends i).partials
taken-here ends i (inl within) = get_or-set_same ends i (first_taken (end_at ends i).waiting (end_at ends i).partials) empty_end within
taken-here ends i (inr past) =
    let new : end_at ends i ≡ empty_end = get_or_past ends i empty_end past in
    ap (λ (es : List End). end_at es i) (set_past ends i (first_taken (end_at ends i).waiting (end_at ends i).partials) past)
    ∙ new ∙ ap (λ (e : End). first_taken e.waiting e.partials) (sym new)

take-step : (ends : List End) (at i : ℕ) (taken : List Fragment) → Follows (end_at ends i) taken → ((at == i) ≡ true) ⊎ ((at == i) ≡ false)
    → Follows (end_at (after_take at ends) i) (cond (at == i) (take 1 (end_at ends i).waiting) [] ++ taken)
take-step ends at i taken h (inr other) =
    let apart : i ≢ at = λ e. false≢true (sym other ∙ eq-eqb at i (sym e)) in
    rw other (same-end (end_at ends i) _ taken (get_or-set_other ends at i (first_taken (end_at ends at).waiting (end_at ends at).partials) empty_end apart) h)
take-step ends at i taken h (inl here) =
    let is : i ≡ at = sym (eqb-true at i here) in
    rw here (subst (λ (k : ℕ). Follows (end_at (after_take k ends) i) (take 1 (end_at ends i).waiting ++ taken)) is
    (same-end (first_taken (end_at ends i).waiting (end_at ends i).partials) _ (take 1 (end_at ends i).waiting ++ taken) (taken-here ends i (cases_lt i (length ends)))
    (follows-first (end_at ends i).waiting taken (end_at ends i) refl h)))

follows-new : (e : End) → e ≡ empty_end → Follows e []
follows-new e is = same-end empty_end e [] is (record { partials = refl; waiting = tt; all = tt })

pub follows : (start : List End) (i : ℕ) (calls : List LinkCall) → end_at start i ≡ empty_end → Follows (end_at (ends_after start calls) i) (taken_at start i calls)
follows start i [] new = follows-new (end_at start i) new
follows start i (sends from number to packet ∷ calls) new =
    send-step from number to packet (ends_after start calls) i (taken_at start i calls) (follows start i calls new) (cases_Bool (to == i)) (cases_lt to (length (ends_after start calls)))
follows start i (takes at ∷ calls) new =
    take-step (ends_after start calls) at i (taken_at start i calls) (follows start i calls new) (cases_Bool (at == i))

-- ---- packets that arrive

completes : (o : Option (List ℕ)) (packet : List ℕ) (arrival : Arrival) → IsOutcome o arrival → IsOutcome (Some packet) arrival → o ≡ Some packet
completes (Some p) packet (Got bytes) h is = ap Some (sym h ∙ is)
completes (Some p) packet Part h is = absurd h
completes (Some p) packet Nothing h is = absurd h
completes None packet (Got bytes) h is = absurd h
completes None packet Part h is = absurd is
completes None packet Nothing h is = absurd h

nothing-joined : (packet : List ℕ) (arrival : Arrival) → arrival ≡ Nothing → IsOutcome (Some packet) arrival → ⊥
nothing-joined packet arrival e is = subst (IsOutcome (Some packet)) e is

first-joined : (start : List End) (calls : List LinkCall) (i : ℕ) (arrival : Arrival) (packet : List ℕ) (waiting : List Fragment) → Follows (end_at (ends_after start calls) i) (taken_at start i calls)
    → waiting ≡ (end_at (ends_after start calls) i).waiting → IsFirst waiting (end_at (ends_after start calls) i).partials arrival → IsOutcome (Some packet) arrival → IsTakenAndJoined start calls i packet
first-joined start calls i arrival packet [] h is first got = absurd (nothing-joined packet arrival first got)
first-joined start calls i arrival packet (f ∷ fs) h is first got =
    let w : Each Within (f ∷ fs) = subst (Each Within) (sym is) h.waiting in
    let completed : completed_by f (partials_of (taken_at start i calls)) ≡ Some packet =
    ap (completed_by f) (sym h.partials) ∙ completes (completed_by f (end_at (ends_after start calls) i).partials) packet arrival first got in
    record {
      fragment = f;
      taken = rw (eq-eqb i i refl) (ap (λ (xs : List Fragment). take 1 xs ++ taken_at start i calls) (sym is));
      joined = are-joined (taken_at start i calls) f packet (of-each Within (f ∷ taken_at start i calls) (w.0, h.all)) completed;
    }

pub takes-joined : (start : List End) (calls : List LinkCall) (i : ℕ) (arrival : Arrival) (packet : List ℕ) → ((k : ℕ) → end_at start k ≡ empty_end) → IsArrival i (ends_after start calls) arrival
    → IsOutcome (Some packet) arrival → IsTakenAndJoined start calls i packet
takes-joined start calls i arrival packet new first got =
    first-joined start calls i arrival packet (end_at (ends_after start calls) i).waiting (follows start i calls (new i)) refl first got
