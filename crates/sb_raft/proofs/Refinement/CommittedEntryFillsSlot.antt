-- The slot that one more committed entry fills.
use Rattle.std.proofs.Common.{◌≡◌, ℕ, ◌+◌, ◌-◌, ◌<◌, ◌≤◌, List, [], ◌∷◌, ◌++◌, length, take, drop, get_or, append_assoc, append-nil, sym, subst, ap, ◌∙◌, arith}
use Rattle.std.proofs.Math.Seq.{drop-append_seam, drop-cons}
use Rattle.std.specs.Prelude.{max}
use Rattle.std.proofs.lemmas.List.{drop-drop, length-drop, length-take, length-take-le, nil_from_length}
use Rattle.iss_request.specs.declared.ids.Slot.{Slot}
use Rattle.iss_request.specs.declared.requests.Value.{Value}
use Rattle.raft_wire.specs.declared.entries.Entry.{Entry}
use Rattle.iss_sb.specs.Paired.{paired}
use Rattle.sb_raft.specs.Held.{AreCounted, LogState}
use Rattle.sb_raft.specs.Logs.{content, contents, filled}
use Rattle.sb_raft.proofs.Refinement.LogCountersAgree.{counted-pass}
use Rattle.sb_raft.proofs.StateChanges.CommittedEntriesStay.{contents-both}
use Rattle.sb_raft.proofs.ModuleLaws.LogLengthIsBounded.{filled-both}
use Rattle.sb_raft.proofs.Refinement.MergeAgrees.{take-both}
use Rattle.iss_sb.proofs.Paired.{paired-none}
use Rattle.sb_raft.proofs.Refinement.DeliveredSlotsAgree.{paired-both}

module _ (es : List Entry) (d : Entry) (at : ℕ) (lt : at < length es) where
  abbrev here : Entry
  here = get_or es at d

  one-content : contents (take 1 (drop at es)) ≡ content here.what
  one-content = ap (λ (z : List Entry). contents (take 1 z)) (drop-cons es at d lt) ∙ append-nil (content here.what)

  pub pass-none : (slots passed : ℕ) → content here.what ≡ [] → AreCounted es slots at passed → AreCounted es slots (at + 1) passed
  pass-none slots passed none h =
      let n = ap (λ (z : List Value). length z) none in
      let same : passed + length (content here.what) ≡ passed = omega (arith, n) in
      subst (λ (k : ℕ). AreCounted es slots (at + 1) k) same (counted-pass es d slots at passed lt h)

  pub pass-some : (slots passed : ℕ) (v : Value) → content here.what ≡ v ∷ [] → AreCounted es slots at passed → AreCounted es slots (at + 1) (passed + 1)
  pass-some slots passed v one h =
      let n = ap (λ (z : List Value). length z) one in
      let same : passed + length (content here.what) ≡ passed + 1 = omega (arith, n) in
      subst (λ (k : ℕ). AreCounted es slots (at + 1) k) same (counted-pass es d slots at passed lt h)

  pub fresh-none : (fresh : List (Slot × Value)) (ss : List Slot) → content here.what ≡ [] → fresh ≡ fresh ++ paired ss (contents (take 1 (drop at es)))
  fresh-none fresh ss none =
      sym (append-nil fresh) ∙ ap (λ (z : List (Slot × Value)). fresh ++ z) (sym (ap (λ (z : List Value). paired ss z) (one-content ∙ none) ∙ paired-none ss))

  pub fresh-some : (slots : List Slot) (place : ℕ) (v : Value) → content here.what ≡ v ∷ [] → place ≡ filled (take at es) →
      paired (drop place slots) (v ∷ []) ≡ paired (drop (filled (take at es)) slots) (contents (take 1 (drop at es)))
  fresh-some slots place v one is =
      ap (λ (n : ℕ). paired (drop n slots) (v ∷ [])) is ∙ ap (λ (z : List Value). paired (drop (filled (take at es)) slots) z) (sym (one-content ∙ one))

-- ---- One more entry after those since an index

module _ (es : List Entry) (slots : List Slot) (from at : ℕ) (le : from ≤ at) (lt : at < length es) where
  abbrev a : List Entry
  a = take from es

  abbrev b : List Entry
  b = take (at - from) (drop from es)

  abbrev c : List Entry
  c = take 1 (drop at es)

  parts : take at es ≡ a ++ b
  parts = let k : at ≡ from + (at - from) = omega (arith, le) in ap (λ (n : ℕ). take n es) k ∙ sym (take-both from (at - from) es)

  long : from ≡ length a
  long = sym (length-take-le from es (omega (arith, le, lt)))

  behind : (z : List Entry) → drop from (a ++ z) ≡ z
  behind z = ap (λ (n : ℕ). drop n (a ++ z)) long ∙ drop-append_seam a z

  since : drop from (take at es) ≡ b
  since = ap (λ (z : List Entry). drop from z) parts ∙ behind b

  since-more : drop from (take (at + 1) es) ≡ b ++ c
  since-more = ap (λ (z : List Entry). drop from z) (sym (take-both at 1 es) ∙ ap (λ (z : List Entry). z ++ c) parts ∙ append_assoc a b c) ∙ behind (b ++ c)

  places : drop (length (contents b)) (drop (filled a) slots) ≡ drop (filled (take at es)) slots
  places =
      let f = ap filled parts ∙ filled-both a b in
      drop-drop (length (contents b)) (filled a) slots ∙ ap (λ (n : ℕ). drop n slots) (sym f)

  pub since-next : (fresh new : List (Slot × Value)) → fresh ≡ paired (drop (filled a) slots) (contents (drop from (take at es))) →
      new ≡ fresh ++ paired (drop (filled (take at es)) slots) (contents c) → new ≡ paired (drop (filled a) slots) (contents (drop from (take (at + 1) es)))
  since-next fresh new h e =
      let ss = drop (filled a) slots in
      let old : fresh ≡ paired ss (contents b) = h ∙ ap (λ (z : List Entry). paired ss (contents z)) since in
      let all : paired ss (contents (drop from (take (at + 1) es))) ≡ paired ss (contents b) ++ paired (drop (filled (take at es)) slots) (contents c) =
      ap (λ (z : List Entry). paired ss (contents z)) since-more ∙ ap (λ (z : List Value). paired ss z) (contents-both b c) ∙ paired-both ss (contents b) (contents c)
      ∙ ap (λ (z : List Slot). paired ss (contents b) ++ paired z (contents c)) places in
      e ∙ ap (λ (z : List (Slot × Value)). z ++ paired (drop (filled (take at es)) slots) (contents c)) old ∙ sym all

-- ---- From the committed index on

pub since-none : (es : List Entry) (slots : List Slot) (from : ℕ) → paired (drop (filled (take from es)) slots) (contents (drop from (take from es))) ≡ []
since-none es slots from =
    let nothing : drop from (take from es) ≡ [] = nil_from_length (drop from (take from es)) (let d = length-drop from (take from es) in let t = length-take from es in omega (arith, d, t)) in
    ap (λ (z : List Entry). paired (drop (filled (take from es)) slots) (contents z)) nothing ∙ paired-none (drop (filled (take from es)) slots)

abbrev IsUp : LogState → LogState → ℕ → List Slot → List (Slot × Value) → Type 0
IsUp start now index slots fresh =
    (now.entries ≡ start.entries) × (start.commit ≤ now.commit) × (now.commit ≤ max start.commit index)
    × (fresh ≡ paired (drop (filled (take start.commit start.entries)) slots) (contents (drop start.commit (take now.commit start.entries))))

pub up-next : (start old new : LogState) (index : ℕ) (slots : List Slot) (fresh later : List (Slot × Value)) → index ≤ length start.entries → old.commit < index → IsUp start old index slots fresh →
    new ≡ record old { commit = old.commit + 1 } → later ≡ fresh ++ paired (drop (filled (take old.commit old.entries)) slots) (contents (take 1 (drop old.commit old.entries))) → IsUp start new index slots later
up-next start old new index slots fresh later most lt h e f =
    let es : new.entries ≡ start.entries = ap (λ (z : LogState). z.entries) e ∙ h.0 in
    let commit : new.commit ≡ old.commit + 1 = ap (λ (z : LogState). z.commit) e in
    let low = h.1 in
    let added : later ≡ fresh ++ paired (drop (filled (take old.commit start.entries)) slots) (contents (take 1 (drop old.commit start.entries))) =
    f ∙ ap (λ (z : List Entry). fresh ++ paired (drop (filled (take old.commit z)) slots) (contents (take 1 (drop old.commit z)))) h.0 in
    let next = since-next start.entries slots start.commit old.commit low (omega (arith, lt, most)) fresh later h.3 added in (
      es,
      omega (arith, commit, low),
      omega (arith, commit, lt),
      next ∙ ap (λ (n : ℕ). paired (drop (filled (take start.commit start.entries)) slots) (contents (drop start.commit (take n start.entries)))) (sym commit),
    )
