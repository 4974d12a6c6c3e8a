use Rattle.std.proofs.Common.{arith, ℕ, ◌≡◌, ◌∙◌, ◌≤◌, List, length, take, ap, length-take}
use Rattle.iss_journal.specs.EntryViews.{entries_in}
use Rattle.iss_journal.specs.Frames.{frames}
use Rattle.iss_journal.specs.Tails.{with_tails}
use Rattle.iss_journal.proofs.Book.{fewer_bytes}
use Rattle.iss_journal.proofs.TailLemmas.{length-tails, tails_first}
use Rattle.iss_journal.proofs.shared.SharedEntries.keep_first.Goals as goal

within : (es ts : List (List ℕ)) (k : ℕ) → k ≤ length (with_tails es ts) → k ≤ length es
within es ts k le = omega (arith, le, length-tails es ts)

each : (es new ts tails : List (List ℕ)) (k : ℕ) → length ts ≡ length es → new ≡ take k es → tails ≡ take k ts →
    length tails ≡ length new
each es new ts tails k same is more =
    omega (arith, same, ap length is, ap length more, length-take k es, length-take k ts)

first : (es new ts tails : List (List ℕ)) (k : ℕ) → new ≡ take k es → tails ≡ take k ts →
    with_tails new tails ≡ take k (with_tails es ts)
first es new ts tails k is more = ap (λ (l : List (List ℕ)). with_tails l tails) is
    ∙ ap (λ (l : List (List ℕ)). with_tails (take k es) l) more ∙ tails_first es ts k

pub keep_first-requires : goal.keep_first-requires
keep_first-requires c =
    let now = c.args.self.now in within (entries_in now.own) now.tails.items c.args.count c.requires

pub invariant_of-self : goal.invariant_of-self
invariant_of-self c =
    let now = c.args.self.now in
    record {
      each = each (entries_in now.own) (entries_in c.keep_first.new.self) now.tails.items c.truncate.new.self.items
          c.args.count now.each c.keep_first.ensures.entries c.truncate.ensures.items;
    }

pub returns-clause-entries : goal.returns-clause-entries
returns-clause-entries c =
    let now = c.args.self.now in
    first (entries_in now.own) (entries_in c.keep_first.new.self) now.tails.items c.truncate.new.self.items
    c.args.count c.keep_first.ensures.entries c.truncate.ensures.items

pub returns-clause-fewer : goal.returns-clause-fewer
returns-clause-fewer c =
    let now = c.args.self.now in
    record {
      own = omega (
        arith,
        ap (λ (l : List (List ℕ)). length (frames l)) c.keep_first.ensures.entries,
        fewer_bytes (entries_in now.own) c.args.count,
      );
      bytes = omega (arith, c.keep_first.ensures.bytes);
      marks = c.keep_first.ensures.marks;
      marks_room = omega (arith, c.keep_first.ensures.marks_room);
      tails = omega (arith, c.truncate.ensures.len);
      tails_room = omega (arith, c.truncate.ensures.capacity);
    }
