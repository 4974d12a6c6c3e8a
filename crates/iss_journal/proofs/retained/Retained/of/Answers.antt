use Rattle.std.proofs.Common.{arith, ℕ, ◌≡◌, ◌∙◌, ◌<◌, ◌≤◌, ◌+◌, ◌++◌, [], ◌∷◌, List, length, take, get_or, ap, sym, subst}
use Rattle.std.proofs.lemmas.List.{append-nil, take_all, take_more}
use Rattle.iss_journal.specs.EntryViews.{entries_in}
use Rattle.iss_journal.specs.RetainedViews.{Retains, TakesMore}
use Rattle.iss_journal.specs.declared.retained.Retained.{Retained}
use Rattle.iss_journal.proofs.Book.{short_at}
use Rattle.iss_journal.proofs.RetainedLemmas.{same_retains}
use Rattle.iss_journal.proofs.retained.Retained.of.Goals as goal

-- a whole entry as the first of two parts
one : (es : List (List ℕ)) (k : ℕ) (entry body : List ℕ) (new : Retained) → k < length es → entry ≡ get_or es k [] →
    body ≡ [] → Retains (take k es ++ (entry ++ body) ∷ []) new → Retains (take (k + 1) es) new
one es k entry body new lt is none r =
    subst (λ (l : List (List ℕ)). Retains l new)
    (ap (λ (l : List ℕ). take k es ++ l ∷ [])
    (ap (λ (l : List ℕ). entry ++ l) none ∙ append-nil entry ∙ is) ∙ sym (take_more es k [] lt)) r

long : (entry body : List ℕ) → body ≡ [] → length (entry ++ body) ≡ length entry
long entry body none = ap (λ (l : List ℕ). length (entry ++ l)) none ∙ ap length (append-nil entry)

pub add-requires : goal.add-requires
add-requires c =
    let all = c.args.all.now in
    let lt : c.loop-k.k < length (entries_in all) = omega (arith, c.len-k-end.ensures, c.loop-k-test.true) in
    let same = long c.get-entry.result.now c.new.result c.new.ensures in
    record {
      short =
          omega (arith, same, ap length c.get-entry.ensures, short_at (entries_in all) c.loop-k.k lt all.book.short);
      room = subst (λ (n : ℕ). TakesMore 1 n c.reserve.new.self) (sym same) c.in_ok-reserve.ensures.room;
    }

pub loop-k-preserved : goal.loop-k-preserved
loop-k-preserved c =
    let es = entries_in c.args.all.now in
    let lt : c.loop-k.k < length es = omega (arith, c.len-k-end.ensures, c.loop-k-test.true) in
    one es c.loop-k.k c.get-entry.result.now c.new.result c.add.new.self lt c.get-entry.ensures c.new.ensures
    (c.add.ensures.retains (take c.loop-k.k es)
    (same_retains (take c.loop-k.k es) _ c.reserve.new.self c.reserve.ensures.same c.loop-k.invariant))

pub returns : goal.returns
returns c =
    let es = entries_in c.args.all.now in
    let all : length es ≤ c.loop-k.k = omega (arith, c.len-k-end.ensures, c.loop-k-test.false) in
    subst (λ (l : List (List ℕ)). Retains l c.loop-k.kept) (take_all c.loop-k.k es all) c.loop-k.invariant
