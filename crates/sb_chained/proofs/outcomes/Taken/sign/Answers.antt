use Rattle.std.proofs.Common.{subst, sym, List}
use Rattle.iss_sb.specs.Calls.{AreToNodes}
use Rattle.iss_sb.specs.declared.effects.To.{To}
use Rattle.hs_tree.specs.declared.messages.Message.{Message}
use Rattle.hs_tree.specs.Tree.{chained as form}
use Rattle.sb_chained.proofs.Refinement.SignedMessagesAgree.{one-signed}
use Rattle.sb_chained.proofs.outcomes.Taken.sign.Goals as goal

pub returns : goal.returns
returns c =
    let p = c.args.context.now.p.now in
    let none = c.new-sends.ensures in
    let start : AreToNodes p.setup.n c.new-sends.result = subst (λ (z : List (To × Message)). AreToNodes p.setup.n z) (sym none) tt in
    one-signed p c.args.self c.args.keys.now c.send.new.keys c.new-sends.result c.send.new.sends none (c.in_ok-send.ensures.sends form) c.in_ok-send.ensures.used (c.in_ok-send.ensures.addressed start)
