use Rattle.std.proofs.Common.{subst, sym, List}
use Rattle.sb_hotstuff.proofs.Refinement.SignedMessagesAgree.{both-signed, left-enough}
use Rattle.iss_sb.specs.Calls.{AreToNodes}
use Rattle.iss_sb.specs.declared.effects.To.{To}
use Rattle.hs_tree.specs.declared.messages.Message.{Message}
use Rattle.hs_tree.specs.Tree.{basic}
use Rattle.sb_hotstuff.proofs.outcomes.Taken.sign.Goals as goal

pub send-requires-2-clause-left : goal.send-requires-2-clause-left
send-requires-2-clause-left c = left-enough c.args.keys.now c.send.new.keys c.args.self.outcome.answer c.requires c.in_ok-send.ensures.used

pub returns : goal.returns
returns c =
    let p = c.args.context.now.p.now in
    let none = c.new-sends.ensures in
    let start : AreToNodes p.setup.n c.new-sends.result = subst (λ (z : List (To × Message)). AreToNodes p.setup.n z) (sym none) tt in
    both-signed p c.args.self c.args.keys.now c.send.new.keys c.send-2.new.keys c.new-sends.result c.send.new.sends c.send-2.new.sends none (c.in_ok-send.ensures.sends basic) (c.in_ok-send-2.ensures.sends basic)
    c.in_ok-send.ensures.used c.in_ok-send-2.ensures.used (c.in_ok-send-2.ensures.addressed (c.in_ok-send.ensures.addressed start))
