-- What stays in memory of the entries of a file, and where its gates lie.
use Rattle.std.proofs.Common.{arith, ◌≡◌, ℕ, zero, suc, ◌+◌, ◌<◌, ◌≤◌, ◌||◌, Bool, true, false, not, cond, List, [], ◌∷◌, ◌++◌, length, length-append, take, get_or, refl, sym, ap, ◌∙◌}
use Rattle.std.specs.List.{filter}
use Rattle.std.proofs.lemmas.List.{append-nil, take_at}
use Rattle.std.proofs.lemmas.List.Elements.{filter-append}
use Rattle.iss_journal.specs.EntryViews.{entries_in}
use Rattle.iss_journal.specs.Frames.{frame, frames}
use Rattle.iss_journal.specs.Retained.{behind, gates_from, gates_in, has_snapshot, is_snapshot, retained}
use Rattle.iss_journal.specs.RetainedViews.{IsSame, Retains, gates_over, places, shown_in, snapshot_places}
use Rattle.iss_journal.specs.SharedViews.{AreFewer, HasSpace, IsLonger, shared_in}
use Rattle.iss_journal.specs.Tails.{with_tails}
use Rattle.iss_journal.specs.declared.retained.Retained.{Retained}
use Rattle.iss_journal.specs.declared.shared.SharedEntries.{SharedEntries}
use Rattle.iss_journal.proofs.FrameLemmas.{frames-push}
use Rattle.iss_journal.proofs.Retaining.{behind-next, behind-retained, filter-retained, retained-again, retained-event, retained-next, retained-split, retained-twice}

-- ---- offsets

-- Of the end of an entry in two parts.
pub past : (end len : ℕ) (head body : List ℕ) → len ≡ length body →
    end + (5 + (length head + len)) ≡ end + (5 + length (head ++ body))
past end len head body is = omega (arith, is, length-append head body)

-- ---- gates

pub snapshots-next : (at : ℕ) (all : List (List ℕ)) (x : List ℕ) → snapshot_places at (all ++ x ∷ [])
    ≡ snapshot_places at all ++ cond (is_snapshot x) ((at + length (frames all)) ∷ []) []
snapshots-next at [] x =
    let here : at ≡ at + 0 = omega arith in
    ap (λ (n : ℕ). cond (is_snapshot x) (n ∷ []) []) here
snapshots-next at (y ∷ all) x =
    let next = at + length (frame y) in
    let there : next + length (frames all) ≡ at + length (frame y ++ frames all) =
    omega (arith, length-append (frame y) (frames all)) in
    ap (λ (l : List ℕ). cond (is_snapshot y) (at ∷ l) l) (snapshots-next next all x)
    ∙ go (is_snapshot y) (snapshot_places next all)
    (cond (is_snapshot x) ((next + length (frames all)) ∷ []) [])
    ∙ ap (λ (n : ℕ). snapshot_places at (y ∷ all) ++ cond (is_snapshot x) (n ∷ []) []) there
  where
    go : (b : Bool) (s t : List ℕ) → cond b (at ∷ (s ++ t)) (s ++ t) ≡ cond b (at ∷ s) s ++ t
    go true s t = refl
    go false s t = refl

no-places : (at : ℕ) (xs : List (List ℕ)) → has_snapshot xs ≡ false → snapshot_places at xs ≡ []
no-places at [] h = refl
no-places at (x ∷ xs) h =
    go (is_snapshot x) (has_snapshot xs) h (no-places (at + length (frame x)) xs)
  where
    go : (a b : Bool) → (a || b) ≡ false → (b ≡ false → snapshot_places (at + length (frame x)) xs ≡ []) →
        cond a (at ∷ snapshot_places (at + length (frame x)) xs) (snapshot_places (at + length (frame x)) xs) ≡ []
    go true b h ih = absurd (cc)
    go false true h ih = absurd (cc)
    go false false h ih = ih refl

all-places : (at : ℕ) (xs : List (List ℕ)) → has_snapshot xs ≡ false → gates_from at xs ≡ places at xs
all-places at [] h = refl
all-places at (x ∷ xs) h = go (is_snapshot x) (has_snapshot xs) h (all-places (at + length (frame x)) xs)
  where
    go : (a b : Bool) → (a || b) ≡ false →
        (b ≡ false → gates_from (at + length (frame x)) xs ≡ places (at + length (frame x)) xs) →
        cond (a || not b) (at ∷ gates_from (at + length (frame x)) xs) (gates_from (at + length (frame x)) xs)
        ≡ at ∷ places (at + length (frame x)) xs
    go true b h ih = absurd (cc)
    go false true h ih = absurd (cc)
    go false false h ih = ap (λ (l : List ℕ). at ∷ l) (ih refl)

-- the gates of the snapshots, and of the entries behind the last one
pub gates-split : (at start : ℕ) (all : List (List ℕ)) →
    start + length (frames (behind all)) ≡ at + length (frames all) →
    gates_from at all ≡ snapshot_places at all ++ places start (behind all)
gates-split at start [] h = refl
gates-split at start (x ∷ xs) h =
    go (is_snapshot x) (has_snapshot xs) refl (gates-split (at + length (frame x)) start xs) h
  where
    go : (a b : Bool) → has_snapshot xs ≡ b →
        (start + length (frames (behind xs)) ≡ at + length (frame x) + length (frames xs) →
        gates_from (at + length (frame x)) xs
        ≡ snapshot_places (at + length (frame x)) xs ++ places start (behind xs)) →
        start + length (frames (cond (a || b) (behind xs) (x ∷ xs))) ≡ at + length (frame x ++ frames xs) →
        cond (a || not b) (at ∷ gates_from (at + length (frame x)) xs) (gates_from (at + length (frame x)) xs)
        ≡ cond a (at ∷ snapshot_places (at + length (frame x)) xs) (snapshot_places (at + length (frame x)) xs)
        ++ places start (cond (a || b) (behind xs) (x ∷ xs))
    go true b q on h = ap (λ (l : List ℕ). at ∷ l) (on (omega (arith, h, length-append (frame x) (frames xs))))
    go false true q on h = on (omega (arith, h, length-append (frame x) (frames xs)))
    go false false q on h =
        let here : at ≡ start = omega (arith, h) in
        ap (λ (l : List ℕ). at ∷ l) (all-places (at + length (frame x)) xs q)
        ∙ ap (λ (n : ℕ). n ∷ places (n + length (frame x)) xs) here
        ∙ sym (ap (λ (l : List ℕ). l ++ places start (x ∷ xs)) (no-places (at + length (frame x)) xs q))

pub places-at : (at : ℕ) (es : List (List ℕ)) (k : ℕ) → k < length es →
    get_or (places at es) k 0 ≡ at + length (frames (take k es))
places-at at [] k lt = absurd (omega (arith, lt))
places-at at (e ∷ es) zero lt = omega arith
places-at at (e ∷ es) (suc k) lt =
    let rest = places-at (at + length (frame e)) es k (omega (arith, lt)) in
    omega (arith, rest, length-append (frame e) (frames (take k es)))

-- ---- what stays, after one more entry

module _ (es new : List (List ℕ)) (x : List ℕ) (is : new ≡ retained (es ++ x ∷ [])) where
  pub kept-after : retained new ≡ new
  kept-after = ap retained is ∙ retained-twice (es ++ x ∷ []) ∙ sym is

  pub shown-after : (all : List (List ℕ)) → es ≡ retained all → new ≡ retained (all ++ x ∷ [])
  shown-after all h = is ∙ ap (λ (l : List (List ℕ)). retained (l ++ x ∷ [])) h ∙ retained-again all (x ∷ [])

  filter-after : filter is_snapshot new ≡ filter is_snapshot es ++ filter is_snapshot (x ∷ [])
  filter-after = ap (filter is_snapshot) is ∙ filter-retained (es ++ x ∷ [])
      ∙ filter-append is_snapshot es (x ∷ [])

  behind-after : behind new ≡ cond (is_snapshot x) [] (behind es ++ x ∷ [])
  behind-after = ap behind is ∙ behind-retained (es ++ x ∷ []) ∙ behind-next es x

  pub count-event : (n : ℕ) → is_snapshot x ≡ false → n ≡ length (filter is_snapshot es) →
      n ≡ length (filter is_snapshot new)
  count-event n event h =
      let none : filter is_snapshot (x ∷ []) ≡ [] = ap (λ (b : Bool). cond b (x ∷ []) []) event in
      omega (
        arith,
        h,
        ap length filter-after,
        length-append (filter is_snapshot es) (filter is_snapshot (x ∷ [])),
        ap length none,
      )

  pub count-snapshot : (gates : List ℕ) (gate : ℕ) → is_snapshot x ≡ true →
      length gates ≡ length (filter is_snapshot es) →
      length (gates ++ gate ∷ []) ≡ length (filter is_snapshot new)
  count-snapshot gates gate snapshot h =
      let one : filter is_snapshot (x ∷ []) ≡ x ∷ [] = ap (λ (b : Bool). cond b (x ∷ []) []) snapshot in
      omega (
        arith,
        h,
        ap length filter-after,
        length-append (filter is_snapshot es) (filter is_snapshot (x ∷ [])),
        ap length one,
        length-append gates (gate ∷ []),
      )

  pub ends-event : (start end next : ℕ) → is_snapshot x ≡ false → end ≡ start + length (frames (behind es)) →
      next ≡ end + (5 + length x) → next ≡ start + length (frames (behind new))
  ends-event start end next event h is_next =
      let more : behind new ≡ behind es ++ x ∷ [] = behind-after
      ∙ ap (λ (b : Bool). cond b [] (behind es ++ x ∷ [])) event in
      omega (
        arith,
        h,
        is_next,
        ap (λ (l : List (List ℕ)). length (frames l)) more,
        ap length (frames-push (behind es) x),
        length-append (frames (behind es)) (frame x),
      )

  pub ends-snapshot : (next : ℕ) → is_snapshot x ≡ true → next ≡ next + length (frames (behind new))
  ends-snapshot next snapshot =
      let none : behind new ≡ [] = behind-after ∙ ap (λ (b : Bool). cond b [] (behind es ++ x ∷ [])) snapshot in
      omega (arith, ap (λ (l : List (List ℕ)). length (frames l)) none)

-- the snapshots come first
pub first-kept : (es : List (List ℕ)) (n : ℕ) → retained es ≡ es → n ≡ length (filter is_snapshot es) →
    take n es ≡ filter is_snapshot es
first-kept es n kept h =
    ap (take n) (sym kept ∙ retained-split es) ∙ take_at (filter is_snapshot es) (behind es) n (sym h)

pub first-within : (es : List (List ℕ)) (n : ℕ) → retained es ≡ es → n ≡ length (filter is_snapshot es) → n ≤ length es
first-within es n kept h =
    omega (
      arith,
      h,
      ap length (sym kept ∙ retained-split es),
      length-append (filter is_snapshot es) (behind es),
    )

-- a snapshot in the place of what follows the one before
pub with-snapshot : (es new : List (List ℕ)) (n : ℕ) (x : List ℕ) → retained es ≡ es →
    n ≡ length (filter is_snapshot es) → is_snapshot x ≡ true → new ≡ take n es ++ x ∷ [] →
    new ≡ retained (es ++ x ∷ [])
with-snapshot es new n x kept h snapshot is =
    is ∙ ap (λ (l : List (List ℕ)). l ++ x ∷ []) (first-kept es n kept h)
    ∙ sym (retained-next es x ∙ ap (λ (b : Bool). cond b (filter is_snapshot es) (retained es) ++ x ∷ []) snapshot)

pub with-event : (es new : List (List ℕ)) (x : List ℕ) → retained es ≡ es → is_snapshot x ≡ false →
    new ≡ es ++ x ∷ [] → new ≡ retained (es ++ x ∷ [])
with-event es new x kept event is = is ∙ sym (retained-event es x kept event)

pub end-after : (all : List (List ℕ)) (x : List ℕ) (end next : ℕ) → end ≡ length (frames all) →
    next ≡ end + (5 + length x) → next ≡ length (frames (all ++ x ∷ []))
end-after all x end next h is_next =
    omega (arith, h, is_next, ap length (frames-push all x), length-append (frames all) (frame x))

pub snapshots-event : (all : List (List ℕ)) (x : List ℕ) (gates : List ℕ) → is_snapshot x ≡ false →
    gates ≡ snapshot_places 0 all → gates ≡ snapshot_places 0 (all ++ x ∷ [])
snapshots-event all x gates event h =
    h ∙ sym (append-nil (snapshot_places 0 all))
    ∙ sym (snapshots-next 0 all x
    ∙ ap (λ (b : Bool). snapshot_places 0 all ++ cond b ((0 + length (frames all)) ∷ []) []) event)

pub snapshots-more : (all : List (List ℕ)) (x : List ℕ) (gates new : List ℕ) (gate : ℕ) → is_snapshot x ≡ true →
    gates ≡ snapshot_places 0 all → gate ≡ length (frames all) → new ≡ gates ++ gate ∷ [] →
    new ≡ snapshot_places 0 (all ++ x ∷ [])
snapshots-more all x gates new gate snapshot h is_gate is =
    let here : gate ≡ 0 + length (frames all) = omega (arith, is_gate) in
    is ∙ ap (λ (l : List ℕ). l ++ gate ∷ []) h ∙ ap (λ (n : ℕ). snapshot_places 0 all ++ n ∷ []) here
    ∙ sym (snapshots-next 0 all x
    ∙ ap (λ (b : Bool). snapshot_places 0 all ++ cond b ((0 + length (frames all)) ∷ []) []) snapshot)

-- ---- nothing changed

pub same_shown : (old new : Retained) → IsSame old new → shown_in new ≡ shown_in old
same_shown old new same =
    ap (λ (es : List (List ℕ)). with_tails es new.entries.tails.items) same.entries.own
    ∙ ap (λ (ts : List (List ℕ)). with_tails (entries_in old.entries.own) ts) same.entries.tails

pub same_retains : (all : List (List ℕ)) (old new : Retained) → IsSame old new → Retains all old → Retains all new
same_retains all old new same r = record {
  shown = same_shown old new same ∙ r.shown;
  snapshots = same.gates ∙ r.snapshots;
  ends = same.last ∙ r.ends;
}

-- ---- gates of what is in memory

pub gates_are : (all : List (List ℕ)) (kept : Retained) → Retains all kept → gates_over kept ≡ gates_in all
gates_are all kept r =
    let rest : behind (shown_in kept) ≡ behind all = ap behind r.shown ∙ behind-retained all in
    let ends : kept.start + length (frames (behind all)) ≡ 0 + length (frames all) =
    omega (arith, kept.ends, r.ends, ap (λ (l : List (List ℕ)). length (frames l)) rest) in
    ap (λ (l : List ℕ). l ++ places kept.start (behind (shown_in kept))) r.snapshots
    ∙ ap (λ (l : List (List ℕ)). snapshot_places 0 all ++ places kept.start l) rest
    ∙ sym (gates-split 0 kept.start all ends)

-- ---- room

pub space_fewer : (some bytes : ℕ) (old new : SharedEntries) → HasSpace some bytes old → AreFewer old new →
    HasSpace some bytes new
space_fewer some bytes old new has fewer = record {
  in_memory = omega (arith, has.in_memory, fewer.own, fewer.bytes);
  for_marks = omega (arith, has.for_marks, fewer.marks, fewer.marks_room);
  for_tails = omega (arith, has.for_tails, fewer.tails, fewer.tails_room);
}

pub longer_fewer : (more : ℕ) (old mid new : SharedEntries) → AreFewer old mid → IsLonger more mid new →
    IsLonger more old new
longer_fewer more old mid new fewer longer = record {
  own = omega (arith, longer.own, fewer.own);
  bytes = omega (arith, longer.bytes, fewer.bytes);
  marks = omega (arith, longer.marks, fewer.marks);
  marks_room = omega (arith, longer.marks_room, fewer.marks_room);
  tails = omega (arith, longer.tails, fewer.tails);
  tails_room = omega (arith, longer.tails_room, fewer.tails_room);
}

-- the invariants stay where nothing changes
module _ (es new : List (List ℕ)) (same : new ≡ es) where
  pub kept-same : retained es ≡ es → retained new ≡ new
  kept-same kept = ap retained same ∙ kept ∙ sym same

  pub count-same : (gates now : List ℕ) → now ≡ gates → length gates ≡ length (filter is_snapshot es) →
      length now ≡ length (filter is_snapshot new)
  count-same gates now is count =
      ap length is ∙ count ∙ sym (ap (λ (l : List (List ℕ)). length (filter is_snapshot l)) same)

  pub ends-same : (start end : ℕ) → end ≡ start + length (frames (behind es)) →
      end ≡ start + length (frames (behind new))
  ends-same start end ends = omega (arith, ends, ap (λ (l : List (List ℕ)). length (frames (behind l))) same)

-- shared entries with the same parts
pub shared_same : (old new : SharedEntries) → entries_in new.own ≡ entries_in old.own →
    new.tails.items ≡ old.tails.items →
    shared_in new ≡ shared_in old
shared_same old new own tails =
    ap (λ (es : List (List ℕ)). with_tails es new.tails.items) own
    ∙ ap (λ (ts : List (List ℕ)). with_tails (entries_in old.own) ts) tails
