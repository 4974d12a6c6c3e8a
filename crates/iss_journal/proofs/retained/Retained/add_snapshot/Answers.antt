use Rattle.std.proofs.Common.{rules, arith, ℕ, ◌≡◌, ◌∙◌, ◌+◌, true, false, ◌++◌, [], ◌∷◌, List, length, take, ap}
use Rattle.std.specs.List.{filter}
use Rattle.iss_journal.specs.Retained.{is_snapshot, retained}
use Rattle.iss_journal.specs.SharedViews.{shared_in}
use Rattle.iss_journal.proofs.RetainedLemmas.{count-snapshot, end-after, ends-snapshot, first-within, kept-after, longer_fewer, past, shown-after, snapshots-more, space_fewer, with-snapshot}
use Rattle.iss_journal.proofs.retained.Retained.add_snapshot.Goals as goal

-- what is left of the entries, and the snapshot
added : (es mid new : List (List ℕ)) (n : ℕ) (x : List ℕ) → retained es ≡ es → n ≡ length (filter is_snapshot es) →
    is_snapshot x ≡ true → mid ≡ take n es → new ≡ mid ++ x ∷ [] → new ≡ retained (es ++ x ∷ [])
added es mid new n x kept count snapshot is more =
    with-snapshot es new n x kept count snapshot (more ∙ ap (λ (l : List (List ℕ)). l ++ x ∷ []) is)

counted : (gates now : List ℕ) (new : List (List ℕ)) (gate : ℕ) → now ≡ gates ++ gate ∷ [] →
    length (gates ++ gate ∷ []) ≡ length (filter is_snapshot new) → length now ≡ length (filter is_snapshot new)
counted gates now new gate is h = ap length is ∙ h

other-kind : (entry : List ℕ) → is_snapshot entry ≡ true → is_snapshot entry ≡ false → ⊥
other-kind entry is other = cc

pub keep_first-requires : goal.keep_first-requires
keep_first-requires c =
    let now = c.args.self.now in
    let many : c.len-2.result ≡ length now.gates.items = search rules in
    first-within (shared_in now.entries) c.len-2.result now.kept (many ∙ now.count)

pub add-requires : goal.add-requires
add-requires c =
    let now = c.args.self.now in
    record {
      short = c.requires.room.short;
      space = space_fewer 1 (length (c.args.head.now ++ c.args.body)) now.entries c.keep_first.new.self
          c.requires.room.room.space c.keep_first.ensures.fewer;
    }

pub invariant_of-self : goal.invariant_of-self
invariant_of-self c =
    let now = c.args.self.now in
    let es = shared_in now.entries in
    let new = shared_in c.add.new.self in
    let entry = c.args.head.now ++ c.args.body in
    let many : c.len-2.result ≡ length now.gates.items = search rules in
    let is = added es (shared_in c.keep_first.new.self) new c.len-2.result entry now.kept (many ∙ now.count)
    c.requires.snapshot c.keep_first.ensures.entries c.add.ensures.entries in
    record {
      kept = kept-after es new entry is;
      count = counted now.gates.items c.push_reserved.new.self.items new now.end c.push_reserved.ensures.items
          (count-snapshot es new entry is now.gates.items now.end c.requires.snapshot now.count);
      ends = ends-snapshot es new entry is _ c.requires.snapshot;
    }

pub returns : goal.returns
returns c =
    let now = c.args.self.now in
    let es = shared_in now.entries in
    let new = shared_in c.add.new.self in
    let entry = c.args.head.now ++ c.args.body in
    let many : c.len-2.result ≡ length now.gates.items = search rules in
    let is = added es (shared_in c.keep_first.new.self) new c.len-2.result entry now.kept (many ∙ now.count)
    c.requires.snapshot c.keep_first.ensures.entries c.add.ensures.entries in
    let next = past now.end c.len.result c.args.head.now c.args.body c.len.ensures in
    record {
      entries = is;
      event = λ other. absurd (other-kind entry c.requires.snapshot other);
      retains = λ all r. record {
        shown = shown-after es new entry is all r.shown;
        snapshots = snapshots-more all entry now.gates.items c.push_reserved.new.self.items now.end c.requires.snapshot
            r.snapshots r.ends c.push_reserved.ensures.items;
        ends = end-after all entry now.end _ r.ends next;
      };
      grown = record {
        entries = longer_fewer (5 + length entry) now.entries c.keep_first.new.self c.add.new.self
            c.keep_first.ensures.fewer c.add.ensures.longer;
        gates = omega (arith, c.push_reserved.ensures.len);
        gates_room = omega (arith, c.push_reserved.ensures.capacity);
        last = next;
      };
    }
