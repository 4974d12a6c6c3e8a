use Rattle.std.proofs.Common.{rules, refl, subst, arith, ℕ, ◌≡◌, ◌∙◌, ◌<◌, ◌≤◌, ◌+◌, ◌-◌, ◌++◌, suc, [], List, length, length-append, take, get_or, ap, sym}
use Rattle.std.specs.List.{filter}
use Rattle.std.proofs.lemmas.List.{get_or-append_right}
use Rattle.iss_journal.specs.Frames.{frames}
use Rattle.iss_journal.specs.Retained.{behind, is_snapshot, retained}
use Rattle.iss_journal.specs.RetainedViews.{places, shown_in}
use Rattle.iss_journal.proofs.Book.{length_more}
use Rattle.iss_journal.proofs.RetainedLemmas.{places-at}
use Rattle.iss_journal.proofs.Retaining.{retained-split}
use Rattle.iss_journal.proofs.TailLemmas.{gate_within}
use Rattle.iss_journal.proofs.retained.Retained.gate_behind.Goals as goal

module _ (es : List (List ℕ)) (n : ℕ) (kept : retained es ≡ es) (count : n ≡ length (filter is_snapshot es)) where
  split : es ≡ filter is_snapshot es ++ behind es
  split = sym kept ∙ retained-split es

  -- an entry behind the snapshots
  at : (i : ℕ) → n ≤ i → get_or es i [] ≡ get_or (behind es) (i - n) []
  at i le = ap (λ (l : List (List ℕ)). get_or l i []) split
      ∙ get_or-append_right (filter is_snapshot es) (behind es) n i [] (sym count) le

  few : (i : ℕ) → n ≤ i → i < length es → i - n < length (behind es)
  few i le lt = omega (arith, le, lt, ap length split, length-append (filter is_snapshot es) (behind es), count)

  -- the gate after an entry in two parts
  next : (i start gate : ℕ) (head tail : List ℕ) → n ≤ i → i < length es →
      gate ≡ start + length (frames (take (i - n) (behind es))) → head ++ tail ≡ get_or es i [] →
      gate + (5 + length head + length tail) ≡ start + length (frames (take (i + 1 - n) (behind es)))
  next i start gate head tail le lt is_gate is =
      let one : i + 1 - n ≡ suc (i - n) = omega (arith, le) in
      omega (
        arith,
        is_gate,
        length_more (behind es) (i - n) (few i le lt),
        ap length (is ∙ at i le),
        length-append head tail,
        ap (λ (m : ℕ). length (frames (take m (behind es)))) one,
      )

  -- lies in the file
  within : (i start gate end : ℕ) (head tail : List ℕ) → n ≤ i → i < length es →
      gate ≡ start + length (frames (take (i - n) (behind es))) → head ++ tail ≡ get_or es i [] →
      end ≡ start + length (frames (behind es)) → gate + (5 + length head + length tail) ≤ end
  within i start gate end head tail le lt is_gate is ends =
      let one : i + 1 - n ≡ suc (i - n) = omega (arith, le) in
      omega (
        arith,
        ends,
        next i start gate head tail le lt is_gate is,
        gate_within (behind es) (i - n) (few i le lt),
        ap (λ (m : ℕ). length (frames (take m (behind es)))) one,
      )

  -- the gate found
  found : (gates : List ℕ) (k start gate : ℕ) → n ≡ length gates → n ≤ k → k < length es →
      gate ≡ start + length (frames (take (k - n) (behind es))) →
      gate ≡ get_or (gates ++ places start (behind es)) k 0
  found gates k start gate is le lt is_gate = is_gate ∙ sym (places-at start (behind es) (k - n) (few k le lt))
      ∙ sym (get_or-append_right gates (places start (behind es)) n k 0 (sym is) le)

pub parts-requires : goal.parts-requires
parts-requires c = omega (arith, c.requires.within, c.loop-i-test.true)

pub overflow_add-gate-in-loop-i : goal.overflow_add-gate-in-loop-i
overflow_add-gate-in-loop-i c =
    let now = c.args.self.now in
    let lt : c.loop-i.i < length (shown_in now) = omega (arith, c.requires.within, c.loop-i-test.true) in
    let inside = within (shown_in now) (length now.gates.items) now.kept now.count c.loop-i.i now.start c.loop-i.gate
    now.end c.parts.result.0.now c.parts.result.1.now c.loop-i.invariant.from lt c.loop-i.invariant.lies c.parts.ensures
    now.ends in
    omega (arith, inside)

pub overflow_add-gate-in-loop-i-2 : goal.overflow_add-gate-in-loop-i-2
overflow_add-gate-in-loop-i-2 c =
    let now = c.args.self.now in
    let lt : c.loop-i.i < length (shown_in now) = omega (arith, c.requires.within, c.loop-i-test.true) in
    let inside = within (shown_in now) (length now.gates.items) now.kept now.count c.loop-i.i now.start c.loop-i.gate
    now.end c.parts.result.0.now c.parts.result.1.now c.loop-i.invariant.from lt c.loop-i.invariant.lies c.parts.ensures
    now.ends in
    omega (arith, inside)

pub loop-i-preserved : goal.loop-i-preserved
loop-i-preserved c =
    let now = c.args.self.now in
    let lt : c.loop-i.i < length (shown_in now) = omega (arith, c.requires.within, c.loop-i-test.true) in
    record {
      from = omega (arith, c.loop-i.invariant.from);
      lies = next (shown_in now) (length now.gates.items) now.kept now.count c.loop-i.i now.start c.loop-i.gate
          c.parts.result.0.now c.parts.result.1.now c.loop-i.invariant.from lt c.loop-i.invariant.lies c.parts.ensures;
    }

pub returns : goal.returns
returns c =
    let now = c.args.self.now in
    let last : c.loop-i.i ≡ c.args.k = search rules in
    found (shown_in now) (length now.gates.items) now.kept now.count now.gates.items c.args.k now.start c.loop-i.gate
    refl c.requires.late c.requires.within
    (subst (λ (i : ℕ). c.loop-i.gate
    ≡ now.start + length (frames (take (i - length now.gates.items) (behind (shown_in now))))) last
    c.loop-i.invariant.lies)
