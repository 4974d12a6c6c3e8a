use Rattle.std.proofs.Common.{◌+◌, ◌<◌, ◌^◌, List, w64, arith, subst, sym}
use Rattle.std.proofs.Math.Facts.{Fits-of_lt}
use Rattle.raft_wire.specs.declared.entries.Entry.{Entry}
use Rattle.sb_raft.specs.Held.{AreCounted}
use Rattle.sb_raft.proofs.Refinement.LogCountersAgree.{counted-push}
use Rattle.sb_raft.proofs.ModuleLaws.LogLengthIsBounded.{content-low, filled-low}
use Rattle.sb_raft.proofs.log.Log.push.Goals as goal

pub overflow_add-self : goal.overflow_add-self
overflow_add-self c =
    let small = c.self.inside.entries.small in
    let long = c.self.inside.entries.ok in
    let slots = c.self.invariant.0 in
    let low = filled-low c.self.inside.entries.items in
    let one = content-low c.args.entry in
    let more = c.fills-more.ensures in
    let lt : c.self.inside.filled + c.fills-more.result < 2 ^ 64 = omega (arith, small, long.0, long.1, slots, low, one, more) in
    Fits-of_lt {w = w64} lt

pub invariant_of-self-2 : goal.invariant_of-self-2
invariant_of-self-2 c =
    subst (λ (z : List Entry). AreCounted z (c.self.inside.filled + c.fills-more.result) c.self.inside.commit c.self.inside.passed) (sym c.in_ok-push.ensures.items)
    (counted-push c.self.inside.entries.items c.args.entry c.self.inside.filled c.self.inside.commit c.self.inside.passed _ c.fills-more.ensures c.self.invariant)
