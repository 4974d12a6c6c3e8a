use Rattle.std.proofs.Common.{List, take, drop, ap, refl, arith, ◌∙◌}
use Rattle.iss_request.specs.declared.ids.Slot.{Slot}
use Rattle.sb_raft.specs.declared.raft.Raft.{Raft}
use Rattle.iss_sb.specs.Paired.{paired}
use Rattle.sb_raft.specs.Logs.{contents, filled}
use Rattle.sb_raft.proofs.Refinement.LeaderRulesRefine.{advance-done, advance-idle, reach-within}
use Rattle.sb_raft.proofs.raft.Raft.advance.Goals as goal

pub returns-then-index-commit : goal.returns-then-index-commit
returns-then-index-commit c =
    let commit = c.commit.ensures.value in
    let le = c.if-index-commit.true in
    advance-idle c.args.context.now.p.now c.args.self.now c.reach-index.result c.args.sends c.only.result c.reach-index.ensures (omega (arith, commit, le)) c.requires c.only.ensures

pub commit_to-requires : goal.commit_to-requires
commit_to-requires c =
    let commit = c.commit.ensures.value in
    let within = c.commit.ensures.within in
    reach-within c.args.context.now.p.now c.args.self.now c.reach-index.result c.reach-index.ensures (omega (arith, commit, within))

pub returns : goal.returns
returns c =
    let m = c.args.self.now in
    let commit = c.commit.ensures.value in
    let lt = c.if-index-commit.false in
    let new : Raft = record m { log = c.commit_to.new.self } in
    advance-done c.args.context.now.p.now m c.reach-index.result new c.args.sends c.append_to_others.new.sends c.in_ok-delivers.delivers c.only-effects.result c.reach-index.ensures (omega (arith, commit, lt)) refl refl c.in_ok-delivers.ensures.log
    (c.in_ok-delivers.ensures.filled ∙ ap (λ (ss : List Slot). paired (drop (filled (take m.log.commit m.log.entries)) ss) (contents (drop m.log.commit (take c.reach-index.result m.log.entries)))) c.as_slice.ensures)
    c.in_ok-append_to_others.ensures.appends (c.in_ok-append_to_others.ensures.addressed c.requires) c.only-effects.ensures
