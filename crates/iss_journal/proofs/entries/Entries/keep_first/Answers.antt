use Rattle.std.proofs.Common.{rules, arith, min, ◌/◌, ◌%◌, ◌≡◌, ◌+◌, ◌*◌, ◌<◌, ◌≤◌, List, ℕ, length, take, sym, subst}
use Rattle.std.proofs.lemmas.Grind.{div_ceil_times}
use Rattle.iss_journal.specs.EntryViews.{entries_in}
use Rattle.iss_journal.specs.Frames.{frames}
use Rattle.iss_journal.specs.Views.{AreMarks, IsBook, entries_at}
use Rattle.iss_journal.proofs.Book.{Rebuilt, book_first, marks_first}
use Rattle.iss_journal.proofs.entries.Entries.keep_first.Goals as goal

first : (bytes new : List ℕ) (count last k gate : ℕ) → IsBook bytes count last → k ≤ length (entries_at bytes count) →
    gate ≡ length (frames (take k (entries_at bytes count))) → new ≡ take gate bytes →
    Rebuilt new k gate (take k (entries_at bytes count))
first bytes new count last k gate book le is_gate is =
    subst (λ (b : List ℕ). Rebuilt b k gate (take k (entries_at bytes count))) (sym is)
    (book_first bytes count last k gate book le is_gate)

marks : (old new : List ℕ) (es found : List (List ℕ)) (k n : ℕ) → AreMarks old es → k ≤ length es → k ≤ n * 8 →
    n * 8 < k + 8 → new ≡ take n old → found ≡ take k es → AreMarks new found
marks old new es found k n are le enough no_more is same =
    subst (λ (l : List (List ℕ)). AreMarks new l) (sym same)
    (subst (λ (l : List ℕ). AreMarks l (take k es)) (sym is)
    (marks_first old es k n are le (omega (arith, enough)) (omega (arith, no_more))))

pub invariant_of-self : goal.invariant_of-self
invariant_of-self c =
    let now = c.args.self.now in
    let es = entries_in now in
    let again =
    first now.bytes.items c.truncate.new.self.items now.count now.last c.args.count c.gate_before-gate.result
    now.book c.requires c.gate_before-gate.ensures c.truncate.ensures.items in
    let n = c.args.count / 8 + min 1 (c.args.count % 8) in
    let is : c.div_ceil.result ≡ n = search rules in
    let few : (c.args.count ≤ c.div_ceil.result * 8) × (c.div_ceil.result * 8 < c.args.count + 8) =
    subst (λ (m : ℕ). (c.args.count ≤ m * 8) × (m * 8 < c.args.count + 8)) (sym is)
    (div_ceil_times c.args.count 8 (omega arith)) in
    record {
      book = again.book;
      marked = marks now.marks.items c.truncate-2.new.self.items es _ c.args.count c.div_ceil.result now.marked
          c.requires few.0 few.1 c.truncate-2.ensures.items again.found;
    }

pub returns : goal.returns
returns c =
    let now = c.args.self.now in
    record {
      entries = (first now.bytes.items c.truncate.new.self.items now.count now.last c.args.count
          c.gate_before-gate.result
          now.book c.requires c.gate_before-gate.ensures c.truncate.ensures.items).found;
      bytes = search rules;
      marks = search rules;
      marks_room = search rules;
    }
