use Rattle.std.proofs.Common.{List, subst, sym}
use Rattle.iss_sb.specs.declared.effects.To.{To}
use Rattle.iss_sb.specs.Calls.{AreToNodes}
use Rattle.raft_wire.specs.declared.messages.Message.{Message}
use Rattle.sb_raft.proofs.Refinement.SentMessagesAgree.{addressed-more}
use Rattle.sb_raft.proofs.raft.Raft.ask.Goals as goal

pub returns-clause-addressed : goal.returns-clause-addressed
returns-clause-addressed c n lt h = subst (λ (z : List (To × Message)). AreToNodes n z) (sym c.in_ok-push.ensures.ok) (addressed-more n c.args.sends.now c.args.node _ lt h)
