use Rattle.std.proofs.Common.{◌≡◌, ap, ◌∙◌, sym, length, arith}
use Rattle.std.specs.Prelude.{min}
use Rattle.raft_wire.specs.declared.entries.Entry.{Entry}
use Rattle.sb_raft.specs.Logs.{term_at}
use Rattle.sb_raft.proofs.Refinement.LogCountersAgree.{term-last}
use Rattle.sb_raft.proofs.log.Log.term_at.Goals as goal

pub returns : goal.returns
returns c =
    let items = c.self.inside.entries.items in
    let long = c.len.ensures in
    let len = c.self.inside.entries.ok in
    let least = c.min-last.ensures in
    let last : c.min-last.result ≡ min c.args.index (length items) = omega (arith, least, long, len.0) in
    ap (λ (e : Entry). e.term) c.index.ensures ∙ sym (term-last items c.args.index c.min-last.result _ last (omega (arith, c.if-last-eq0.false))) ∙ ap (λ v. term_at v.entries c.args.index) c.self.view_is
