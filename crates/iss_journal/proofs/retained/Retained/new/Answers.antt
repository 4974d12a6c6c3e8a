use Rattle.std.proofs.Common.{arith, ℕ, ◌≡◌, ◌∙◌, ◌+◌, [], List, length, ap, sym}
use Rattle.std.specs.List.{filter}
use Rattle.iss_journal.specs.Frames.{frames}
use Rattle.iss_journal.specs.Retained.{behind, is_snapshot, retained}
use Rattle.iss_journal.specs.SharedViews.{shared_in}
use Rattle.iss_journal.proofs.retained.Retained.new.Goals as goal

kept : (es : List (List ℕ)) → es ≡ [] → retained es ≡ es
kept es is = ap retained is ∙ sym is

count : (es : List (List ℕ)) (gates : List ℕ) → es ≡ [] → gates ≡ [] → length gates ≡ length (filter is_snapshot es)
count es gates is none = ap length none ∙ sym (ap (λ (l : List (List ℕ)). length (filter is_snapshot l)) is)

ends : (es : List (List ℕ)) → es ≡ [] → 0 ≡ 0 + length (frames (behind es))
ends es is = omega (arith, ap (λ (l : List (List ℕ)). length (frames (behind l))) is)

pub invariant_of-result : goal.invariant_of-result
invariant_of-result c =
    let es = shared_in c.new.result in
    record {
      kept = kept es c.new.ensures;
      count = count es c.new-2.result.items c.new.ensures c.new-2.ensures.items;
      ends = ends es c.new.ensures;
    }

pub returns : goal.returns
returns c = record { shown = c.new.ensures; snapshots = c.new-2.ensures.items; ends = omega arith }
