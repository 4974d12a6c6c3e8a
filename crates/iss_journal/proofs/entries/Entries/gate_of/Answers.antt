use Rattle.std.proofs.Common.{◌≡◌, ◌∙◌, ap, subst, sym, ◌+◌, ◌*◌, ◌/◌, ◌<◌, ◌≤◌, List, ℕ, length, take, arith}
use Rattle.iss_journal.specs.EntryViews.{entries_in}
use Rattle.iss_journal.specs.Frames.{frames}
use Rattle.iss_journal.specs.Views.{end_at}
use Rattle.iss_journal.proofs.Book.{ends_at, ends_within}
use Rattle.iss_journal.proofs.entries.Entries.gate_of.Goals as goal

pub end_of-gate-requires : goal.end_of-gate-requires
end_of-gate-requires c =
    let now = c.args.self.now in
    let k = 8 * (c.args.k / 8) + c.loop-i.i in
    let lt : k < length (entries_in c.args.self.now) = omega (arith, c.requires, c.loop-i-test.true) in
    let within : end_at now.bytes.items c.loop-i.gate ≤ length now.bytes.items =
    ends_within now.bytes.items now.count now.last k c.loop-i.gate now.book lt c.loop-i.invariant.lies in
    record { within = subst (λ (l : List ℕ). end_at l c.loop-i.gate ≤ length l) (sym c.deref.ensures.value) within }

pub loop-i-preserved : goal.loop-i-preserved
loop-i-preserved c =
    let now = c.args.self.now in
    let k = 8 * (c.args.k / 8) + c.loop-i.i in
    let lt : k < length (entries_in c.args.self.now) = omega (arith, c.requires, c.loop-i-test.true) in
    let next : k + 1 ≡ 8 * (c.args.k / 8) + (c.loop-i.i + 1) = omega arith in
    record {
      lies =
          c.end_of-gate.ensures ∙ ap (λ (l : List ℕ). end_at l c.loop-i.gate) c.deref.ensures.value
          ∙ ends_at now.bytes.items now.count now.last k c.loop-i.gate now.book lt c.loop-i.invariant.lies
          ∙ ap (λ (n : ℕ). length (frames (take n (entries_in c.args.self.now)))) next;
    }
