-- The code's merge is the model's: how many entries agree in term determines the merged log.
use Rattle.std.proofs.Common.{◌≡◌, ℕ, zero, suc, ◌+◌, ◌<◌, ◌≤◌, ◌==◌, ◌&&◌, Bool, true, false, cond, if◌then◌else◌, List, [], ◌∷◌, ◌++◌, length, take, drop, append_assoc, refl, sym, ap, ◌∙◌, arith}
use Rattle.std.specs.Prelude.{nat_le}
use Rattle.std.proofs.Math.Seq.{take-nil}
use Rattle.std.proofs.lemmas.Bool.{le-leb, lt-leb}
use Rattle.std.proofs.lemmas.List.{length-append, length-take, length-drop, take-append-drop}
use Rattle.raft_wire.specs.declared.entries.Entry.{Entry}
use Rattle.sb_raft.specs.Held.{LogState, is_mergeable, same, with_merged}
use Rattle.iss_base.proofs.Lists.{both}
use Rattle.sb_raft.specs.Logs.{merge, merged, stay}
use Rattle.sb_raft.proofs.StateChanges.CommittedEntriesStay.{merge-longer}

pub same-low : (xs es : List Entry) → same xs es ≤ length xs
same-low [] es = omega arith
same-low (x ∷ xs) [] = omega arith
same-low (x ∷ xs) (e ∷ es) = go (x.term == e.term) (same-low xs es)
  where
    go : (b : Bool) → same xs es ≤ length xs → cond b (suc (same xs es)) 0 ≤ suc (length xs)
    go true h = omega (arith, h)
    go false h = omega arith

pub same-short : (xs es : List Entry) → same xs es ≤ length es
same-short [] es = omega arith
same-short (x ∷ xs) [] = omega arith
same-short (x ∷ xs) (e ∷ es) = go (x.term == e.term) (same-short xs es)
  where
    go : (b : Bool) → same xs es ≤ length es → cond b (suc (same xs es)) 0 ≤ suc (length es)
    go true h = omega (arith, h)
    go false h = omega arith

-- ---- The log has all that was sent

pub stay-all : (xs es : List Entry) → same xs es ≡ length es → stay xs es ≡ length xs
stay-all xs [] h = refl
stay-all [] (e ∷ es) h = absurd (omega (arith, h))
stay-all (x ∷ xs) (e ∷ es) h = go (x.term == e.term) (stay-all xs es) h
  where
    go : (b : Bool) → (same xs es ≡ length es → stay xs es ≡ length xs) → cond b (suc (same xs es)) 0 ≡ suc (length es) → cond b (suc (stay xs es)) 0 ≡ suc (length xs)
    go true r h = ap suc (r (omega (arith, h)))
    go false r h = absurd (omega (arith, h))

pub merge-all : (xs es : List Entry) → same xs es ≡ length es → merge xs es ≡ xs
merge-all xs [] h = refl
merge-all [] (e ∷ es) h = absurd (omega (arith, h))
merge-all (x ∷ xs) (e ∷ es) h = go (x.term == e.term) (merge-all xs es) h
  where
    go : (b : Bool) → (same xs es ≡ length es → merge xs es ≡ xs) → cond b (suc (same xs es)) 0 ≡ suc (length es) → cond b (x ∷ merge xs es) (e ∷ es) ≡ x ∷ xs
    go true r h = ap (λ (z : List Entry). x ∷ z) (r (omega (arith, h)))
    go false r h = absurd (omega (arith, h))

-- ---- The log lacks some of it

pub stay-part : (xs es : List Entry) → same xs es < length es → stay xs es ≡ same xs es
stay-part xs [] h = absurd (omega (arith, h))
stay-part [] (e ∷ es) h = refl
stay-part (x ∷ xs) (e ∷ es) h = go (x.term == e.term) (stay-part xs es) h
  where
    go : (b : Bool) → (same xs es < length es → stay xs es ≡ same xs es) → cond b (suc (same xs es)) 0 < suc (length es) → cond b (suc (stay xs es)) 0 ≡ cond b (suc (same xs es)) 0
    go true r h = ap suc (r (omega (arith, h)))
    go false r h = refl

pub merge-part : (xs es : List Entry) → same xs es < length es → merge xs es ≡ take (same xs es) xs ++ drop (same xs es) es
merge-part xs [] h = absurd (omega (arith, h))
merge-part [] (e ∷ es) h = refl
merge-part (x ∷ xs) (e ∷ es) h = go (x.term == e.term) (merge-part xs es) h
  where
    go : (b : Bool) → (same xs es < length es → merge xs es ≡ take (same xs es) xs ++ drop (same xs es) es) → cond b (suc (same xs es)) 0 < suc (length es) →
        cond b (x ∷ merge xs es) (e ∷ es) ≡ take (cond b (suc (same xs es)) 0) (x ∷ xs) ++ drop (cond b (suc (same xs es)) 0) (e ∷ es)
    go true r h = ap (λ (z : List Entry). x ∷ z) (r (omega (arith, h)))
    go false r h = refl

-- ---- After an index of the log

pub take-both : (n k : ℕ) (xs : List Entry) → take n xs ++ take k (drop n xs) ≡ take (n + k) xs
take-both zero k xs = ap (λ (n : ℕ). take n xs) (omega arith)
take-both (suc n) k [] = take-nil k ∙ sym (take-nil (suc n + k))
take-both (suc n) k (x ∷ xs) =
    let more : suc n + k ≡ suc (n + k) = omega arith in
    ap (λ (z : List Entry). x ∷ z) (take-both n k xs) ∙ ap (λ (m : ℕ). take m (x ∷ xs)) (sym more)

both-is : (a b c : Bool) → a ≡ true → b ≡ c → (a && b) ≡ c
both-is a b c h g = ap (λ (x : Bool). x && b) h ∙ g

first-fails : (a b : Bool) → a ≡ false → (a && b) ≡ false
first-fails a b h = ap (λ (x : Bool). x && b) h

second-fails : (a b : Bool) → b ≡ false → (a && b) ≡ false
second-fails true b h = h
second-fails false b h = refl

module _ (log : List Entry) (front : ℕ) (es : List Entry) (within : front ≤ length log) where
  abbrev k : ℕ
  k = same (drop front log) es

  pub stays-all : k ≡ length es → front + stay (drop front log) es ≡ length log
  stays-all h = let s = stay-all (drop front log) es h in let d = length-drop front log in omega (arith, s, d, within)

  pub merged-all : k ≡ length es → merged log front es ≡ log
  merged-all h = ap (λ (z : List Entry). take front log ++ z) (merge-all (drop front log) es h) ∙ take-append-drop front log

  pub stays-part : k < length es → front + stay (drop front log) es ≡ front + k
  stays-part h = ap (λ (z : ℕ). front + z) (stay-part (drop front log) es h)

  pub merged-part : k < length es → merged log front es ≡ take (front + k) log ++ drop k es
  merged-part h =
      ap (λ (z : List Entry). take front log ++ z) (merge-part (drop front log) es h) ∙ sym (append_assoc (take front log) (take k (drop front log)) (drop k es))
      ∙ ap (λ (z : List Entry). z ++ drop k es) (take-both front k log)

  pub part-within : front + k ≤ length log
  part-within = let l = same-low (drop front log) es in let d = length-drop front log in omega (arith, l, d, within)

  pub merged-long : k < length es → length (merged log front es) ≡ front + length es
  merged-long h =
      let l = ap (λ (z : List Entry). length z) (merged-part h) ∙ length-append (take (front + k) log) (drop k es) in
      let t = length-take (front + k) log in
      let d = length-drop k es in
      let w = part-within in
      omega (arith, l, t, d, w, h)

  -- ---- What may be merged

  abbrev log_of : ℕ → LogState
  log_of commit = record { entries = log; commit = commit }

  pub mergeable-all : (commit : ℕ) → k ≡ length es → commit ≤ length log → is_mergeable (log_of commit) front es ≡ nat_le (length log) 65600
  mergeable-all commit h c =
      let first = le-leb commit (front + stay (drop front log) es) (let s = stays-all h in omega (arith, s, c)) in
      let second : nat_le (length (merged log front es)) 65600 ≡ nat_le (length log) 65600 = ap (λ (z : List Entry). nat_le (length z) 65600) (merged-all h) in
      both-is (nat_le commit (front + stay (drop front log) es)) _ _ first second

  pub mergeable-low : (commit : ℕ) → k < length es → front + k < commit → is_mergeable (log_of commit) front es ≡ false
  mergeable-low commit h c = first-fails _ _ (lt-leb commit (front + stay (drop front log) es) (let s = stays-part h in omega (arith, s, c)))

  pub mergeable-long : (commit : ℕ) → k < length es → 65600 < front + length es → is_mergeable (log_of commit) front es ≡ false
  mergeable-long commit h c = second-fails _ _ (lt-leb (length (merged log front es)) 65600 (let s = merged-long h in omega (arith, s, c)))

  pub mergeable-part : (commit : ℕ) → k < length es → commit ≤ front + k → front + length es ≤ 65600 → is_mergeable (log_of commit) front es ≡ true
  mergeable-part commit h c f =
      both _ _ (le-leb commit (front + stay (drop front log) es) (let s = stays-part h in omega (arith, s, c))) (le-leb (length (merged log front es)) 65600 (let s = merged-long h in omega (arith, s, f)))

  -- the merged log covers what was sent
  pub merged-reach : front + length es ≤ length (merged log front es)
  merged-reach =
      let l = length-append (take front log) (merge (drop front log) es) in
      let t = length-take front log in
      let m = merge-longer (drop front log) es in
      omega (arith, l, t, m, within)

-- ---- The same, with an equal count

pub same-of : (log : List Entry) (front : ℕ) (es sent : List Entry) (count : ℕ) → sent ≡ es → count ≡ same (drop front log) sent → count ≡ same (drop front log) es
same-of log front es sent count e h = h ∙ ap (λ (z : List Entry). same (drop front log) z) e

module _ (l : LogState) (front : ℕ) (es : List Entry) (within : front ≤ length l.entries) (count : ℕ) (is : count ≡ same (drop front l.entries) es) where
  pub merge-all-is : length es ≤ count → l.commit ≤ length l.entries → is_mergeable l front es ≡ nat_le (length l.entries) 65600
  merge-all-is h c = let s = same-short (drop front l.entries) es in mergeable-all l.entries front es within l.commit (omega (arith, h, is, s)) c

  pub merge-low-is : count < length es → front + count < l.commit → is_mergeable l front es ≡ false
  merge-low-is h c = mergeable-low l.entries front es within l.commit (omega (arith, h, is)) (omega (arith, c, is))

  pub merge-long-is : count < length es → 65600 < front + length es → is_mergeable l front es ≡ false
  merge-long-is h c = mergeable-long l.entries front es within l.commit (omega (arith, h, is)) c

  pub merge-part-is : count < length es → l.commit ≤ front + count → front + length es ≤ 65600 → is_mergeable l front es ≡ true
  merge-part-is h c f = mergeable-part l.entries front es within l.commit (omega (arith, h, is)) (omega (arith, c, is)) f

  pub merge-all-log : length es ≤ count → (b : Bool) → l ≡ (if b then with_merged l front es else l)
  merge-all-log h false = refl
  merge-all-log h true =
      let s = same-short (drop front l.entries) es in
      let e = merged-all l.entries front es within (omega (arith, h, is, s)) in
      λ i. record { entries = sym e i; commit = l.commit }

  pub merge-part-log : count < length es → (cut new : LogState) (sent : List Entry) → cut ≡ record l { entries = take (front + count) l.entries } → sent ≡ es →
      new ≡ record cut { entries = cut.entries ++ drop count sent } → new ≡ with_merged l front es
  merge-part-log h cut new sent c e n =
      let k : same (drop front l.entries) es < length es = omega (arith, h, is) in
      let log : cut.entries ++ drop count sent ≡ merged l.entries front es =
      ap (λ (z : LogState). z.entries ++ drop count sent) c ∙ ap (λ (z : List Entry). take (front + count) l.entries ++ drop count z) e
      ∙ ap (λ (m : ℕ). take (front + m) l.entries ++ drop m es) is ∙ sym (merged-part l.entries front es within k) in
      let commit : cut.commit ≡ l.commit = ap (λ (z : LogState). z.commit) c in
      n ∙ (λ i. record { entries = log i; commit = commit i })
