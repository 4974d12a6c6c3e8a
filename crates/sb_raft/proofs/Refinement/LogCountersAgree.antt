-- The log's counters, and the term at an index.
use Rattle.std.proofs.Common.{◌≡◌, ℕ, zero, suc, ◌+◌, ◌-◌, ◌<◌, ◌≤◌, Bool, true, false, cond, List, [], ◌∷◌, ◌++◌, length, take, drop, get_or, append_assoc, append-nil, refl, sym, ap, ◌∙◌, true≢false, zero-add, arith}
use Rattle.std.specs.Prelude.{min}
use Rattle.std.proofs.Math.Seq.{drop-cons, take-length, take-suc}
use Rattle.std.proofs.lemmas.List.{drop-drop, length-append, length-drop, nil_from_length, take-append-le, take_min}
use Rattle.iss_request.specs.declared.requests.Value.{Value}
use Rattle.raft_wire.specs.declared.entries.Entry.{Entry}
use Rattle.sb_raft.specs.Held.{AreCounted, LogState, same, starts_with}
use Rattle.sb_raft.specs.Logs.{content, entry, filled, last_term, nils, term_at}
use Rattle.iss_sb.specs.declared.content.Content.TheVariants.{Nil}
use Rattle.sb_raft.proofs.ModuleLaws.LogLengthIsBounded.{filled-both}

filled-one : (e : Entry) → filled (e ∷ []) ≡ length (content e.what)
filled-one e = ap (λ (z : List Value). length z) (append-nil (content e.what))

-- ---- Counters

pub counted-push : (es : List Entry) (e : Entry) (slots commit passed more : ℕ) → more ≡ length (content e.what) → AreCounted es slots commit passed → AreCounted (es ++ e ∷ []) (slots + more) commit passed
counted-push es e slots commit passed more m h =
    let f = filled-both es (e ∷ []) in
    let o = filled-one e in
    let l = length-append es (e ∷ []) in
    let a = h.0 in
    let b = h.1 in
    (omega (arith, f, o, m, a), omega (arith, l, b), h.2 ∙ ap filled (sym (take-append-le commit es (e ∷ []) h.1)))

pub counted-pop : (es rest : List Entry) (e : Entry) (slots commit passed less : ℕ) → less ≡ length (content e.what) → es ≡ rest ++ e ∷ [] → commit < length es → AreCounted es slots commit passed → AreCounted rest (slots - less) commit passed
counted-pop es rest e slots commit passed less m is lt h =
    let f = ap filled is ∙ filled-both rest (e ∷ []) in
    let o = filled-one e in
    let l = ap (λ (z : List Entry). length z) is ∙ length-append rest (e ∷ []) in
    let a = h.0 in
    let low : commit ≤ length rest = omega (arith, l, lt) in
    (omega (arith, f, o, m, a), low, h.2 ∙ ap (λ (z : List Entry). filled (take commit z)) is ∙ ap filled (take-append-le commit rest (e ∷ []) low))

-- the slots of a removed entry were counted
pub pop-less : (es rest : List Entry) (e : Entry) (slots commit passed less : ℕ) → less ≡ length (content e.what) → es ≡ rest ++ e ∷ [] → AreCounted es slots commit passed → less ≤ slots
pop-less es rest e slots commit passed less m is h =
    let f = ap filled is ∙ filled-both rest (e ∷ []) in
    let o = filled-one e in
    let a = h.0 in
    omega (arith, f, o, m, a)

pub filled-next : (es : List Entry) (at : ℕ) (d : Entry) → at < length es → filled (take (suc at) es) ≡ filled (take at es) + length (content (get_or es at d).what)
filled-next es at d lt = ap filled (take-suc es at d lt) ∙ filled-both (take at es) (get_or es at d ∷ []) ∙ ap (λ (n : ℕ). filled (take at es) + n) (filled-one (get_or es at d))

pub counted-pass : (es : List Entry) (d : Entry) (slots commit passed : ℕ) → commit < length es → AreCounted es slots commit passed → AreCounted es slots (commit + 1) (passed + length (content (get_or es commit d).what))
counted-pass es d slots commit passed lt h =
    let n = filled-next es commit d lt in
    let b = h.2 in
    let more : commit + 1 ≡ suc commit = omega arith in
    let s : filled (take (commit + 1) es) ≡ filled (take (suc commit) es) = ap (λ (k : ℕ). filled (take k es)) more in
    (h.0, omega (arith, lt), omega (arith, n, b, s))

-- ---- Terms

pub term-at : (log : List Entry) (k : ℕ) (d : Entry) → k < length log → term_at log (suc k) ≡ (get_or log k d).term
term-at [] k d lt = absurd (omega (arith, lt))
term-at (x ∷ []) zero d lt = refl
term-at (x ∷ []) (suc k) d lt = absurd (omega (arith, lt))
term-at (x ∷ (y ∷ log)) zero d lt = refl
term-at (x ∷ (y ∷ log)) (suc k) d lt = term-at (y ∷ log) k d (omega (arith, lt))

pub term-front : (log : List Entry) (i last : ℕ) → last ≡ min i (length log) → last ≡ 0 → term_at log i ≡ 0
term-front log i last m z = ap last_term (sym (take_min i log) ∙ ap (λ (k : ℕ). take k log) (sym m ∙ z))

pub term-last : (log : List Entry) (i last : ℕ) (d : Entry) → last ≡ min i (length log) → 1 ≤ last → term_at log i ≡ (get_or log (last - 1) d).term
term-last log i last d m one =
    let k : last ≡ suc (last - 1) = omega (arith, one) in
    let within : last - 1 < length log = omega (arith, m, one) in
    ap last_term (sym (take_min i log) ∙ ap (λ (n : ℕ). take n log) (sym m ∙ k)) ∙ term-at log (last - 1) d within

pub term-all : (log : List Entry) → term_at log (length log) ≡ last_term log
term-all log = ap last_term (take-length log)

-- ---- Equal terms in sequence

run-more : (xs es : List Entry) (e : Entry) (es' : List Entry) → es ≡ e ∷ es' → starts_with xs e.term ≡ true → same xs es ≡ suc (same (drop 1 xs) es')
run-more [] es e es' h t = absurd (true≢false (sym t))
run-more (x ∷ xs) es e es' h t = ap (λ (z : List Entry). same (x ∷ xs) z) h ∙ ap (λ (b : Bool). cond b (suc (same xs es')) 0) t

run-ends : (xs es : List Entry) (e : Entry) (es' : List Entry) → es ≡ e ∷ es' → starts_with xs e.term ≡ false → same xs es ≡ 0
run-ends [] es e es' h t = refl
run-ends (x ∷ xs) es e es' h t = ap (λ (z : List Entry). same (x ∷ xs) z) h ∙ ap (λ (b : Bool). cond b (suc (same xs es')) 0) t

starts-longer : (xs : List Entry) (t : ℕ) → starts_with xs t ≡ true → 1 ≤ length xs
starts-longer [] t h = absurd (true≢false (sym h))
starts-longer (x ∷ xs) t h = omega arith

-- this many of the entries after the index agree in term
pub record IsRun (log es : List Entry) (index at : ℕ) : Type 0 where
  pub within : index + at ≤ length log
  pub so_far : at + same (drop (index + at) log) (drop at es) ≡ same (drop index log) es

module _ (log es : List Entry) (index at : ℕ) (d : Entry) where
  pub run-next : at < length es → starts_with (drop (index + at) log) (get_or es at d).term ≡ true → IsRun log es index at → IsRun log es index (at + 1)
  run-next lt t r =
      let more = run-more (drop (index + at) log) (drop at es) (get_or es at d) (drop (suc at) es) (drop-cons es at d lt) t in
      let long = starts-longer (drop (index + at) log) (get_or es at d).term t in
      let left = length-drop (index + at) log in
      let w = r.within in
      let front : drop 1 (drop (index + at) log) ≡ drop (index + (at + 1)) log = drop-drop 1 (index + at) log ∙ ap (λ (n : ℕ). drop n log) (one index at) in
      let behind : drop (suc at) es ≡ drop (at + 1) es = ap (λ (n : ℕ). drop n es) (last at) in
      let moved : same (drop 1 (drop (index + at) log)) (drop (suc at) es) ≡ same (drop (index + (at + 1)) log) (drop (at + 1) es) = ap (λ (z : List Entry). same z (drop (suc at) es)) front ∙ ap (λ (z : List Entry). same (drop (index + (at + 1)) log) z) behind in
      record { within = omega (arith, long, left, w); so_far = let s = r.so_far in omega (arith, more, moved, s) }
    where
      one : (a b : ℕ) → a + b + 1 ≡ a + (b + 1)
      one a b = omega arith

      last : (a : ℕ) → suc a ≡ a + 1
      last a = omega arith

  pub run-stop : at < length es → starts_with (drop (index + at) log) (get_or es at d).term ≡ false → IsRun log es index at → at ≡ same (drop index log) es
  run-stop lt t r =
      let none = run-ends (drop (index + at) log) (drop at es) (get_or es at d) (drop (suc at) es) (drop-cons es at d lt) t in
      let s = r.so_far in
      omega (arith, none, s)

pub run-start : (log es : List Entry) (index : ℕ) → index ≤ length log → IsRun log es index 0
run-start log es index le = record { within = omega (arith, le); so_far = zero-add (same (drop (index + 0) log) es) ∙ ap (λ (n : ℕ). same (drop n log) es) (zero-more index) }
  where
    zero-more : (n : ℕ) → n + 0 ≡ n
    zero-more n = omega arith

same-none : (xs : List Entry) → same xs [] ≡ 0
same-none [] = refl
same-none (x ∷ xs) = refl

pub run-all : (log es : List Entry) (index at : ℕ) → at ≡ length es → IsRun log es index at → at ≡ same (drop index log) es
run-all log es index at e r =
    let nothing : drop at es ≡ [] = nil_from_length (drop at es) (let l = length-drop at es in omega (arith, l, e)) in
    let none = ap (λ (z : List Entry). same (drop (index + at) log) z) nothing ∙ same-none (drop (index + at) log) in
    let s = r.so_far in
    omega (arith, none, s)

-- ---- Nils

pub nils-more : (t k : ℕ) → nils t k ++ entry t Nil ∷ [] ≡ nils t (suc k)
nils-more t zero = refl
nils-more t (suc k) = ap (λ (z : List Entry). entry t Nil ∷ z) (nils-more t k)

-- one more nil
pub nils-pushed : (start old new : LogState) (t k : ℕ) → old ≡ record start { entries = start.entries ++ nils t k } → new ≡ record old { entries = old.entries ++ entry t Nil ∷ [] } →
    new ≡ record start { entries = start.entries ++ nils t (k + 1) }
nils-pushed start old new t k h e =
    let more : suc k ≡ k + 1 = omega arith in
    let es : old.entries ++ entry t Nil ∷ [] ≡ start.entries ++ nils t (k + 1) =
    ap (λ (z : LogState). z.entries ++ entry t Nil ∷ []) h ∙ append_assoc start.entries (nils t k) (entry t Nil ∷ [])
    ∙ ap (λ (z : List Entry). start.entries ++ z) (nils-more t k ∙ ap (λ (n : ℕ). nils t n) more) in
    let commit : old.commit ≡ start.commit = ap (λ (z : LogState). z.commit) h in
    e ∙ (λ i. record { entries = es i; commit = commit i })
