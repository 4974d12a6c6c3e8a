use Rattle.std.proofs.Common.{rules, arith, refl, subst, sym, ◌≡◌, ◌≢◌, ◌<◌, ◌≤◌, ◌+◌, ◌++◌, [], ◌∷◌, List, ℕ, length, take, drop, get_or}
use Rattle.std.specs.Int.{w32, to_be_bytes, from_be_bytes}
use Rattle.iss_journal.specs.Frames.{IsWhole}
use Rattle.iss_journal.specs.Views.{AreMarks, entries_at, entry_at}
use Rattle.iss_journal.proofs.Book.{as_many, closes, one_more}
use Rattle.iss_journal.proofs.FrameLemmas.{length-entries}
use Rattle.iss_journal.proofs.scan.read_entries.Goals as goal

pub overflow_add-count : goal.overflow_add-count
overflow_add-count c =
    let entries = entries_at c.args.bytes.items c.loop-bytes.count in
    let book = c.loop-bytes.invariant.book in
    let few : c.loop-bytes.count ≤ c.loop-bytes.at =
    omega (arith, length-entries 0 c.args.bytes.items c.loop-bytes.count, as_many entries, book.end) in
    let below : c.loop-bytes.count < length c.args.bytes.items = omega (arith, few, c.loop-bytes.invariant.within) in
    search rules

pub loop-bytes-preserved : goal.loop-bytes-preserved
loop-bytes-preserved c =
    let bytes = c.args.bytes.items in
    let at = c.loop-bytes.at in
    let first : c.index.result.now ≡ get_or bytes at c.index.result.now = search rules in
    let is_open : c.index.result.now ≡ 1 = search rules in
    let sized : to_be_bytes w32 (from_be_bytes w32 (take 4 (drop (at + 1) bytes))) ≡ take 4 (drop (at + 1) bytes) =
    search rules in
    let whole : IsWhole (drop (at + 1) bytes) = search rules in
    let is_next : c.in-Some.next ≡ at + 5 + from_be_bytes w32 (take 4 (drop (at + 1) bytes)) = search rules in
    let within : c.in-Some.next < length bytes = search rules in
    let again = one_more bytes c.loop-bytes.count
    (c.loop-bytes.count + 1) at c.in-Some.next c.index.result.now c.loop-bytes.invariant.book
    c.loop-bytes.invariant.within
    first is_open sized whole is_next refl in
    let marked : AreMarks c.mark.new.marks.items (entries_at bytes c.loop-bytes.count ++ entry_at bytes at ∷ []) =
    c.mark.ensures.marked (entries_at bytes c.loop-bytes.count) (entry_at bytes at)
    (sym (length-entries 0 bytes c.loop-bytes.count)) c.loop-bytes.invariant.book.end marks_before in
    record {
      book = again.book;
      marked = subst (λ (es : List (List ℕ)). AreMarks c.mark.new.marks.items es) (sym again.found) marked;
      within = within;
    }
  where
    marks_before : AreMarks c.reserve.new.self.items (entries_at c.args.bytes.items c.loop-bytes.count)
    marks_before = subst (λ (l : List ℕ). AreMarks l (entries_at c.args.bytes.items c.loop-bytes.count))
        (sym c.reserve.ensures.items) c.loop-bytes.invariant.marked

pub returns : goal.returns
returns c =
    let first : c.index.result.now ≡ get_or c.args.bytes.items c.loop-bytes.at c.index.result.now = search rules in
    let closed : c.index.result.now ≢ 1 = search rules in (
      c.from_parts.ensures.bytes,
      closes c.args.bytes.items c.loop-bytes.count c.loop-bytes.at c.index.result.now _ c.loop-bytes.invariant.book
          c.loop-bytes.invariant.within first closed c.from_parts.ensures.entries,
    )
