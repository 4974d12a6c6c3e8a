use Rattle.std.proofs.Common.{rules, ℕ, ◌≡◌, ◌∙◌, ◌<◌, ◌++◌, List, length, get_or, sym}
use Rattle.std.proofs.lemmas.List.{get_or_append_left, get_or_default}
use Rattle.iss_journal.specs.Retained.{behind}
use Rattle.iss_journal.specs.RetainedViews.{places, shown_in}
use Rattle.iss_journal.proofs.retained.Retained.gate_of.Goals as goal

among : (gates rest : List ℕ) (k gate : ℕ) → k < length gates → gate ≡ get_or gates k gate →
    gate ≡ get_or (gates ++ rest) k 0
among gates rest k gate lt is = is ∙ get_or_default gates k gate 0 lt ∙ sym (get_or_append_left gates rest 0 k lt)

pub returns-then-k-len : goal.returns-then-k-len
returns-then-k-len c =
    let now = c.args.self.now in
    let lt : c.args.k < length now.gates.items = search rules in
    among now.gates.items (places now.start (behind (shown_in now))) c.args.k c.index.result.now lt
    c.index.ensures
