use Rattle.std.proofs.Common.{arith, ℕ, ◌≡◌, ◌∙◌, ◌<◌, ◌++◌, [], List, length, get_or, ap, subst, sym}
use Rattle.std.proofs.lemmas.List.{get_or_default}
use Rattle.iss_journal.specs.EntryViews.{entries_in}
use Rattle.iss_journal.specs.Tails.{with_tails}
use Rattle.iss_journal.proofs.TailLemmas.{at_tail, length-tails}
use Rattle.iss_journal.proofs.shared.SharedEntries.parts.Goals as goal

within : (es ts : List (List ℕ)) (k : ℕ) → k < length (with_tails es ts) → k < length es
within es ts k lt = omega (arith, lt, length-tails es ts)

both : (es ts : List (List ℕ)) (k : ℕ) (head tail : List ℕ) → k < length (with_tails es ts) →
    length ts ≡ length es → head ≡ get_or es k [] → tail ≡ get_or ts k tail →
    head ++ tail ≡ get_or (with_tails es ts) k []
both es ts k head tail lt each is_head is_tail =
    let few : k < length ts = omega (arith, within es ts k lt, each) in
    ap (λ (l : List ℕ). l ++ tail) is_head
    ∙ ap (λ (l : List ℕ). get_or es k [] ++ l) (is_tail ∙ get_or_default ts k tail [] few)
    ∙ sym (at_tail es ts k (within es ts k lt) each)

pub get-requires : goal.get-requires
get-requires c =
    let now = c.args.self.now in within (entries_in now.own) now.tails.items c.args.k c.requires

pub index-requires : goal.index-requires
index-requires c =
    let now = c.args.self.now in
    let lt = within (entries_in now.own) now.tails.items c.args.k c.requires in
    omega (arith, lt, now.each)

pub returns : goal.returns
returns c =
    let now = c.args.self.now in
    both (entries_in now.own) now.tails.items c.args.k c.get.result.now c.as_slice.result.now c.requires now.each
    c.get.ensures
    (subst (λ (l : List ℕ). l ≡ get_or now.tails.items c.args.k l) (sym c.as_slice.ensures) c.index.ensures)
