use Rattle.std.proofs.Common.{◌∙◌, ◌++◌, sym, ap, map}
use Rattle.iss_request.specs.declared.setups.Setup.{Setup}
use Rattle.iss_schedule.specs.Words.{ended}
use Rattle.iss_sb.specs.Evidence.{is_correct}
use Rattle.iss_theorems.specs.Headline.{shown}
use Rattle.iss_reply.specs.Replies.{replies_to, replying}
use Rattle.iss_answers.specs.Lines.{reply_line}
use Rattle.iss_replies.proofs.NodeLemmas.{all-made, same-log, where-written}
use Rattle.iss_replies.proofs.texts.put_node.Goals as goal

pub returns : goal.returns
returns g c =
    let s = c.args.world.now.simulation.setup in
    let m = g.M.Sequenced.spec in
    let node = c.args.node in
    let out = c.args.out.now.items in
    let log = c.log.result.now.entries in
    let right = ap (λ (t : Setup). is_correct t node) (sym c.setup.ensures.same) ∙ sym c.if-not-is_correct.ensures in
    where-written c.put_replies.result _ _ c.put_replies.ensures
    (λ is p st. all-made s (shown s m p.state.held) node log out c.put_replies.new.out.items right
    (same-log s m p.state.held node log c.requires (c.log.ensures p st))
    (is ∙ ap (λ (t : Setup). out ++ ended (map reply_line (replies_to (replying t node) log))) c.setup-2.ensures.same))
