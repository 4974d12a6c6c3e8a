use Rattle.std.proofs.Common.{◌≡◌, ◌<◌, ◌^◌, ◌+◌, ◌++◌, ◌∙◌, length, take, drop, ap, sym, subst, w64, arith}
use Rattle.std.proofs.lemmas.List.{length-take}
use Rattle.std.proofs.Math.Facts.{Fits-of_lt}
use Rattle.std.specs.Option.{option_to_list}
use Rattle.raft_wire.specs.declared.entries.Entry.{Entry}
use Rattle.iss_sb.specs.Paired.{paired}
use Rattle.sb_raft.specs.Held.{LogState}
use Rattle.sb_raft.specs.Logs.{content, contents, filled}
use Rattle.sb_raft.proofs.ModuleLaws.LogLengthIsBounded.{filled-low}
use Rattle.sb_raft.proofs.Refinement.CommittedEntryFillsSlot.{fresh-none, pass-none, pass-some}
use Rattle.sb_raft.proofs.log.Log.pass.Goals as goal

pub invariant_of-self : goal.invariant_of-self
invariant_of-self c =
    let commit = ap (λ (v : LogState). v.commit) c.self.view_is in
    let long = ap (λ (v : LogState). length v.entries) c.self.view_is in
    let lt : c.self.inside.commit < length c.self.inside.entries.items = omega (arith, commit, long, c.requires) in
    pass-none c.self.inside.entries.items c.index.result.now c.self.inside.commit lt c.self.inside.filled c.self.inside.passed
    (ap (λ (e : Entry). content e.what) (sym c.index.ensures) ∙ sym c.in_ok-value.ensures ∙ ap option_to_list c.in_default.is) c.self.invariant

pub returns-in_default-clause-fresh : goal.returns-in_default-clause-fresh
returns-in_default-clause-fresh c =
    let commit = ap (λ (v : LogState). v.commit) c.self.view_is in
    let long = ap (λ (v : LogState). length v.entries) c.self.view_is in
    let lt : c.self.inside.commit < length c.self.inside.entries.items = omega (arith, commit, long, c.requires) in
    subst (λ (v : LogState). c.args.fresh.now ≡ c.args.fresh.now ++ paired (drop (filled (take v.commit v.entries)) c.args.slots.now) (contents (take 1 (drop v.commit v.entries)))) c.self.view_is
    (fresh-none c.self.inside.entries.items c.index.result.now c.self.inside.commit lt c.args.fresh.now (drop (filled (take c.self.inside.commit c.self.inside.entries.items)) c.args.slots.now)
    (ap (λ (e : Entry). content e.what) (sym c.index.ensures) ∙ sym c.in_ok-value.ensures ∙ ap option_to_list c.in_default.is))

pub overflow_add-self-2 : goal.overflow_add-self-2
overflow_add-self-2 c =
    let small = c.self.inside.entries.small in
    let long = c.self.inside.entries.ok in
    let commit = ap (λ (v : LogState). v.commit) c.self.view_is in
    let all = ap (λ (v : LogState). length v.entries) c.self.view_is in
    let passed = c.self.invariant.2 in
    let low = filled-low (take c.self.inside.commit c.self.inside.entries.items) in
    let taken = length-take c.self.inside.commit c.self.inside.entries.items in
    let lt : c.self.inside.passed + 1 < 2 ^ 64 = omega (arith, small, long.0, long.1, passed, low, taken) in
    Fits-of_lt {w = w64} lt

pub invariant_of-self-2 : goal.invariant_of-self-2
invariant_of-self-2 c =
    let commit = ap (λ (v : LogState). v.commit) c.self.view_is in
    let long = ap (λ (v : LogState). length v.entries) c.self.view_is in
    let lt : c.self.inside.commit < length c.self.inside.entries.items = omega (arith, commit, long, c.requires) in
    pass-some c.self.inside.entries.items c.index.result.now c.self.inside.commit lt c.self.inside.filled c.self.inside.passed c.in-Some.value
    (ap (λ (e : Entry). content e.what) (sym c.index.ensures) ∙ sym c.in_ok-value.ensures ∙ ap option_to_list c.in-Some.is) c.self.invariant
