use Rattle.std.proofs.Common.{rules, arith, ◌≡◌, ◌+◌, ◌≤◌, ◌++◌, [], ◌∷◌, length, length-append, ap, sym, subst, List, ℕ, refl}
use Rattle.iss_journal.specs.Frames.{frame, frames}
use Rattle.iss_journal.specs.Views.{AreMarks, entries_at}
use Rattle.iss_journal.proofs.Book.{as_many, with_entry}
use Rattle.iss_journal.proofs.FrameLemmas.{length-entries}
use Rattle.iss_journal.proofs.entries.Entries.commit.Goals as goal

pub invariant_of-self : goal.invariant_of-self
invariant_of-self c =
    let now = c.args.self.now in
    let entry = c.args.head.now ++ c.args.body.now in
    let next = ap (λ (n : ℕ). now.last + (5 + n)) (sym (length-append c.args.head.now c.args.body.now)) in
    let end = now.last + (5 + (length c.args.head.now + length c.args.body.now)) in
    let again = with_entry now.bytes.items now.count (now.count + 1) now.last end entry
    (0 ∷ []) now.book c.requires.bytes c.requires.short refl next in
    let marked : AreMarks c.mark.new.marks.items (entries_at now.bytes.items now.count ++ entry ∷ []) =
    c.mark.ensures.marked (entries_at now.bytes.items now.count) entry
    (sym (length-entries 0 now.bytes.items now.count)) now.book.end now.marked in
    record {
      book = again.book;
      marked = subst (λ (es : List (List ℕ)). AreMarks c.mark.new.marks.items es) (sym again.found) marked;
    }

pub returns : goal.returns
returns c =
    let now = c.args.self.now in
    let next = ap (λ (n : ℕ). now.last + (5 + n)) (sym (length-append c.args.head.now c.args.body.now)) in
    let end = now.last + (5 + (length c.args.head.now + length c.args.body.now)) in
    record {
      entries = (with_entry now.bytes.items now.count (now.count + 1) now.last end (c.args.head.now ++ c.args.body.now)
          (0 ∷ []) now.book c.requires.bytes c.requires.short refl next).found;
      bytes = search rules;
      mark = search rules;
      no_less = search rules;
    }

pub overflow_add-self : goal.overflow_add-self
overflow_add-self c =
    let now = c.args.self.now in
    let many = length-entries 0 now.bytes.items now.count in
    let few = as_many (entries_at now.bytes.items now.count) in
    let more : frames (entries_at now.bytes.items now.count) ++ (frame (c.args.head.now ++ c.args.body.now) ++ 0 ∷ [])
    ≡ now.bytes.items = sym c.requires.bytes in
    let longer : now.count + 1 ≤ length now.bytes.items =
    omega (
      arith,
      many,
      few,
      ap length more,
      length-append (frames (entries_at now.bytes.items now.count))
          (frame (c.args.head.now ++ c.args.body.now) ++ 0 ∷ []),
      length-append (frame (c.args.head.now ++ c.args.body.now)) (0 ∷ []),
    ) in
    search rules
