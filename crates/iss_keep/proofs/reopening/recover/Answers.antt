use Rattle.std.proofs.Common.{sym, subst, take, ℕ, List, Err}
use Rattle.iss_request.specs.declared.ids.NodeId.{NodeId}
use Rattle.iss_keep.specs.Internal.Replays.{AreInFront, IsBackAt, IsRecovery}
use Rattle.iss_keep.proofs.reopening.recover.Goals as goal

pub replay_behind-requires : goal.replay_behind-requires
replay_behind-requires g c =
    record {
      front = subst (λ (es : List (List ℕ)). AreInFront es c.in-Ok.front) c.entries.ensures c.in-Ok.ensures;
      stay = c.requires.stay;
      at = subst (λ (i : NodeId). IsBackAt c.args.setup.now g.M.Sequenced.spec g.M.Sequenced.refines i (take c.in-Ok.front c.args.journal.now.entries) c.in_ok-node.node)
          (sym c.in_ok-node.ensures.same.number) c.in_ok-node.ensures;
    }

pub returns-in-Err : goal.returns-in-Err
returns-in-Err g c =
    let stops : IsRecovery {T = Unit {0}} (λ x. Unit {0}) c.args.setup.now g.M.Sequenced.spec c.in_ok-node.node.state.me.0 c.args.journal.now (Err c.in-Err.error) =
    c.in-Err.ensures.recovered in
    subst (λ (i : NodeId). IsRecovery {T = Unit {0}} (λ x. Unit {0}) c.args.setup.now g.M.Sequenced.spec i.0 c.args.journal.now (Err c.in-Err.error)) c.in_ok-node.ensures.same.number stops
