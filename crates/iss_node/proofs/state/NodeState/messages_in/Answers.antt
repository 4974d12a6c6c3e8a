use Rattle.std.proofs.Common.{arith, ◌∙◌, ◌<◌, List, Option, Some, sym, ap, subst}
use Rattle.std.proofs.lemmas.List.{take_all}
use Rattle.std.specs.Prelude.{IfSome, option_map}
use Rattle.iss_model.specs.Frames.{frame_of}
use Rattle.iss_node.proofs.Snapshots.BytesAreRead.{early-all, early-bad, early-many, early-on}
use Rattle.iss_node.proofs.Steps.QueriesAgree.{from-more, seen-more}
use Rattle.iss_node.specs.Internal.Shape.{AreFrom}
use Rattle.iss_node.specs.State.{seen_early, seen_one}
use Rattle.iss_node.specs.declared.answers.Early.{Early}
use Rattle.iss_rebuilt.specs.Reading.{early_each}
use Rattle.iss_node.proofs.state.NodeState.messages_in.Goals as goal

pub returns-then-packets-gt-EARLY_MOST-clause-read : goal.returns-then-packets-gt-EARLY_MOST-clause-read
returns-then-packets-gt-EARLY_MOST-clause-read g c =
    sym (early-many (frame_of c.args.self.now.setup g.M.Sequenced.spec) c.args.self.now.epoch c.args.packets.now (omega (arith, c.if-packets-gt-EARLY_MOST.true)))

pub returns-in-None-clause-read : goal.returns-in-None-clause-read
returns-in-None-clause-read g c =
    sym (early-bad (frame_of c.args.self.now.setup g.M.Sequenced.spec) c.args.self.now.epoch c.args.packets.now c.loop-packet.packet-index c.packet-item.result (omega (arith, c.loop-packet-test.true)) c.packet-item.is
    (sym c.in_ok-message.ensures.read ∙ ap (λ (o : Option (Early g.row.M-Msg.Denot)). option_map (λ x. seen_one x) o) c.in-None.is))

pub loop-packet-preserved : goal.loop-packet-preserved
loop-packet-preserved g c =
    let h = c.loop-packet.invariant in
    let W = frame_of c.args.self.now.setup g.M.Sequenced.spec in
    let more = c.in_ok-push-in-Some.ensures.items in
    record {
      read =
          early-on W c.args.self.now.epoch c.args.packets.now c.loop-packet.packet-index c.packet-item.result (seen_early c.loop-packet.early.items) (seen_one c.in-Some.message) (omega (arith, c.loop-packet-test.true)) c.packet-item.is
          h.read (sym c.in_ok-message.ensures.read ∙ ap (λ (o : Option (Early g.row.M-Msg.Denot)). option_map (λ x. seen_one x) o) c.in-Some.is)
          ∙ ap (λ xs. Some xs) (sym (ap (λ (xs : List (Early g.row.M-Msg.Denot)). seen_early xs) more ∙ seen-more c.loop-packet.early.items c.in-Some.message));
      from = subst (λ (xs : List (Early g.row.M-Msg.Denot)). AreFrom c.args.self.now.setup.n xs) (sym more)
          (from-more c.args.self.now.setup.n c.loop-packet.early.items c.in-Some.message h.from (subst (λ (o : Option (Early g.row.M-Msg.Denot)). IfSome o (λ x. x.from.0 < c.args.self.now.setup.n)) c.in-Some.is c.in_ok-message.ensures.from));
    }

pub returns-clause-read : goal.returns-clause-read
returns-clause-read g c =
    let W = frame_of c.args.self.now.setup g.M.Sequenced.spec in
    let h = c.loop-packet.invariant in
    early-all W c.args.self.now.epoch c.args.packets.now (seen_early c.loop-packet.early.items) (omega (arith, c.if-packets-gt-EARLY_MOST.false))
    (ap (λ xs. early_each W c.args.self.now.epoch xs) (sym (take_all c.loop-packet.packet-index c.args.packets.now (omega (arith, c.loop-packet-test.false)))) ∙ h.read)
