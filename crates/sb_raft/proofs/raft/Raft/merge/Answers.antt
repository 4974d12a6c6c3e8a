use Rattle.std.proofs.Common.{List, take, drop, ap, sym, refl, ◌∙◌, arith}
use Rattle.iss_request.specs.declared.ids.Slot.{Slot}
use Rattle.sb_raft.specs.declared.raft.Raft.{Raft}
use Rattle.iss_sb.specs.Paired.{paired}
use Rattle.sb_raft.specs.Held.{with_merged}
use Rattle.sb_raft.specs.Logs.{contents, filled}
use Rattle.sb_raft.specs.Refines.{held}
use Rattle.sb_raft.proofs.Refinement.FollowerRulesRefine.{merge-done, merge-idle, merged-told, when-false, when-true}
use Rattle.sb_raft.proofs.raft.Raft.merge.Goals as goal

pub returns-then-not-branch : goal.returns-then-not-branch
returns-then-not-branch c =
    let m = c.args.self.now in
    let new : Raft = record m { log = c.merge.new.self } in
    merge-idle c.args.context.now.p.now m new c.args.from.0 c.args.previous c.args.commit c.args.entries c.requires.from c.requires.previous refl c.nothing.result
    (λ i. let r : Raft = record m { log = when-false c.in_ok-merge.field-0 c.merge.new.self m.log (with_merged m.log c.args.previous c.args.entries) c.if-not-branch.true c.in_ok-merge.ensures.log i } in held r) (sym c.in_ok-merge.ensures.tells ∙ c.if-not-branch.true) c.nothing.ensures

pub commit_to-requires : goal.commit_to-requires
commit_to-requires c =
    let m = c.args.self.now in
    let long = c.len.ensures in
    let sum = c.saturating_add-sent.ensures in
    let told = c.min-told.ensures in
    merged-told m.log c.merge.new.self c.args.previous c.args.entries c.saturating_add-sent.result c.args.commit c.min-told.result c.requires.previous (when-true c.in_ok-merge.field-0 c.merge.new.self m.log (with_merged m.log c.args.previous c.args.entries) c.if-not-branch.false c.in_ok-merge.ensures.log) (omega (arith, long, sum)) told

pub returns : goal.returns
returns c =
    let m = c.args.self.now in
    let long = c.len.ensures in
    let sum = c.saturating_add-sent.ensures in
    let mid = c.merge.new.self in
    let new : Raft = record m { log = c.commit_to.new.self } in
    merge-done c.args.context.now.p.now m new c.args.from.0 c.args.previous c.args.commit c.args.entries c.requires.from c.requires.previous refl mid c.saturating_add-sent.result c.min-told.result c.in_ok-delivers.delivers c.in_ok-effects.effects
    (sym c.in_ok-merge.ensures.tells ∙ c.if-not-branch.false) (when-true c.in_ok-merge.field-0 c.merge.new.self m.log (with_merged m.log c.args.previous c.args.entries) c.if-not-branch.false c.in_ok-merge.ensures.log) c.in_ok-delivers.ensures.log refl (omega (arith, long, sum)) c.min-told.ensures
    (c.in_ok-delivers.ensures.filled ∙ ap (λ (ss : List Slot). paired (drop (filled (take mid.commit mid.entries)) ss) (contents (drop mid.commit (take c.min-told.result mid.entries)))) c.as_slice.ensures)
    c.in_ok-effects.ensures
