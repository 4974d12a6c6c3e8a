use Rattle.std.proofs.Common.{refl, arith}
use Rattle.std.specs.Prelude.{nat_le, length}
use Rattle.std.proofs.lemmas.Bool.{lt-leb}
use Rattle.std.proofs.lemmas.Result.{IfOk-weaker}
use Rattle.sb_raft.specs.declared.raft.Raft.{Raft}
use Rattle.sb_raft.specs.Rules.{advanced, quiet}
use Rattle.sb_raft.specs.Refines.{IsLow, held}
use Rattle.sb_raft.proofs.Refinement.FollowerRulesRefine.{idle}
use Rattle.sb_raft.proofs.Refinement.LeaderRulesRefine.{ok-done}
use Rattle.sb_raft.proofs.StateChanges.StepCases.{with_match}
use Rattle.sb_raft.proofs.raft.Raft.take_ok.Goals as goal

pub returns-then-index-len : goal.returns-then-index-len
returns-then-index-len c =
    let m = c.args.self.now in
    let long = c.len.ensures.value in
    let lt = c.if-index-len.true in
    idle c.args.context.now.p.now (IsLow (held m)) m (nat_le c.args.index (length m.log.entries)) (advanced c.args.context.now.p.now m.me.0 (quiet (with_match (held m) c.args.from.0 c.args.index))) c.nothing.result
    (lt-leb c.args.index (length m.log.entries) (omega (arith, long, lt))) c.nothing.ensures

pub returns : goal.returns
returns c =
    let m = c.args.self.now in
    let long = c.len.ensures.value in
    let le = c.if-index-len.false in
    let was = c.at.ensures in
    let most = c.max-held.ensures in
    let mid : Raft = record m { matched = c.put.new.self; next = c.put-2.new.self } in
    IfOk-weaker c.advance.result _ _ (λ e d. ok-done c.args.context.now.p.now m c.args.from.0 c.args.index c.requires mid c.advance.new.self c.max-held.result c.saturating_add.result c.new.result e (omega (arith, long, le)) d c.new.ensures refl refl
    (omega (arith, was, most)) c.saturating_add.ensures c.in_ok-put.ensures c.in_ok-put-2.ensures refl) c.advance.ensures
