use Rattle.std.proofs.Common.{rules, ◌≡◌, ◌+◌, ◌-◌, ◌≤◌, ◌<◌, ℕ, List, length, take, drop, ap, subst, sym, ◌∙◌}
use Rattle.iss_journal.specs.EntryViews.{entries_in}
use Rattle.iss_journal.specs.declared.entries.Entries.{Entries}
use Rattle.iss_journal.specs.Frames.{frames}
use Rattle.iss_journal.specs.Views.{end_at}
use Rattle.iss_journal.proofs.Book.{ends_at, ends_within, entry_is, entry_within, last_within}
use Rattle.iss_journal.proofs.entries.Entries.get.Goals as goal

within : (entries : Entries) (k gate end : ℕ) → k < length (entries_in entries) →
    gate ≡ length (frames (take k (entries_in entries))) → end ≡ end_at entries.bytes.items gate → (gate + 5 ≤ end)
    × (end ≤ length entries.bytes.items)
within entries k gate end lt is_gate is_end =
    let ends = ends_at entries.bytes.items entries.count entries.last k gate entries.book lt is_gate in
    entry_within entries.bytes.items entries.count entries.last k gate end entries.book
    (last_within entries.bytes.items entries.count entries.last entries.book) lt is_gate (is_end ∙ ends)

pub end_of-end-requires : goal.end_of-end-requires
end_of-end-requires c =
    let now = c.args.self.now in
    let inside : end_at now.bytes.items c.gate_of-gate.result ≤ length now.bytes.items =
    ends_within now.bytes.items now.count now.last c.args.k c.gate_of-gate.result now.book c.requires
    c.gate_of-gate.ensures in
    record {
      within = subst (λ (l : List ℕ). end_at l c.gate_of-gate.result ≤ length l)
          (sym c.deref.ensures.value) inside;
    }

ends : (bytes shown : List ℕ) (result gate : ℕ) → result ≡ end_at shown gate → shown ≡ bytes →
    result ≡ end_at bytes gate
ends bytes shown result gate is same = is ∙ ap (λ (l : List ℕ). end_at l gate) same

pub slice_bounds-result-end : goal.slice_bounds-result-end
slice_bounds-result-end c =
    let now = c.args.self.now in
    let is_end = ends now.bytes.items c.deref.result.now c.end_of-end.result c.gate_of-gate.result c.end_of-end.ensures
    c.deref.ensures.value in
    let w = within c.args.self.now c.args.k c.gate_of-gate.result c.end_of-end.result c.requires
    c.gate_of-gate.ensures is_end in
    let in_bytes : c.end_of-end.result ≤ length c.args.self.now.bytes.items = w.1 in search rules

pub returns : goal.returns
returns c =
    let now = c.args.self.now in
    let bytes = c.args.self.now.bytes.items in
    let is_end = ends bytes c.deref.result.now c.end_of-end.result c.gate_of-gate.result c.end_of-end.ensures
    c.deref.ensures.value in
    let stands = ends_at bytes now.count now.last c.args.k c.gate_of-gate.result now.book c.requires
    c.gate_of-gate.ensures in
    ap (λ (l : List ℕ). take (c.end_of-end.result - (c.gate_of-gate.result + 5)) (drop (c.gate_of-gate.result + 5) l))
    c.deref-2.ensures.value
    ∙ entry_is bytes now.count now.last c.args.k c.gate_of-gate.result c.end_of-end.result now.book c.requires
    c.gate_of-gate.ensures (is_end ∙ stands)
