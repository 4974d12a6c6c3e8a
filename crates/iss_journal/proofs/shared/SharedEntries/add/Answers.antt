use Rattle.std.proofs.Common.{arith, ℕ, ◌≡◌, ◌≤◌, ◌∙◌, ◌++◌, [], ◌∷◌, List, length, length-append, ap, vec_len, vec_capacity}
use Rattle.iss_journal.specs.EntryViews.{entries_in}
use Rattle.iss_journal.proofs.TailLemmas.{each_after, grown, longer_by}
use Rattle.iss_journal.proofs.shared.SharedEntries.add.Goals as goal

added : (old staged new : List (List ℕ)) (entry : List ℕ) → staged ≡ old → new ≡ staged ++ entry ∷ [] →
    new ≡ old ++ entry ∷ []
added old staged new entry same is = is ∙ ap (λ (l : List (List ℕ)). l ++ entry ∷ []) same

pub invariant_of-self : goal.invariant_of-self
invariant_of-self c =
    let now = c.args.self.now in
    let es = entries_in now.own in
    let new = entries_in c.commit.new.self in
    let head = c.args.head.now in
    let more =
    added es (entries_in c.stage.new.self) new (head ++ []) c.stage.ensures.entries c.commit.ensures.entries in
    record {
      each = each_after es new now.tails.items c.push_reserved.new.self.items (head ++ []) c.args.body now.each more
          c.push_reserved.ensures.items;
    }

pub returns-clause-entries : goal.returns-clause-entries
returns-clause-entries c =
    let now = c.args.self.now in
    let es = entries_in now.own in
    let new = entries_in c.commit.new.self in
    let head = c.args.head.now in
    let more =
    added es (entries_in c.stage.new.self) new (head ++ []) c.stage.ensures.entries c.commit.ensures.entries in
    grown es new now.tails.items c.push_reserved.new.self.items head c.args.body now.each more
    c.push_reserved.ensures.items

pub returns-clause-longer : goal.returns-clause-longer
returns-clause-longer c =
    let now = c.args.self.now in
    let es = entries_in now.own in
    let new = entries_in c.commit.new.self in
    let head = c.args.head.now in
    let more =
    added es (entries_in c.stage.new.self) new (head ++ []) c.stage.ensures.entries c.commit.ensures.entries in
    let short : length (head ++ []) ≤ length (head ++ c.args.body) =
    omega (arith, length-append head [], length-append head c.args.body) in
    record {
      own = longer_by es new (head ++ []) (length (head ++ c.args.body)) more short;
      bytes = omega (arith, c.stage.ensures.no_less, ap (λ v. vec_capacity v) c.commit.ensures.bytes);
      marks = omega (arith, c.commit.ensures.mark, ap (λ v. vec_len v) c.stage.ensures.marks);
      marks_room = omega (arith, c.commit.ensures.no_less, ap (λ v. vec_capacity v) c.stage.ensures.marks);
      tails = omega (arith, c.push_reserved.ensures.len);
      tails_room = omega (arith, c.push_reserved.ensures.capacity);
    }
