use Rattle.std.proofs.Common.{◌≡◌, ◌∙◌, ap, subst, length, List}
use Rattle.iss_log.specs.LogState.{LogState}
use Rattle.iss_node.specs.declared.answers.Answer.{Answer as NodeAnswer}
use Rattle.iss_node.specs.declared.answers.Answer.TheVariants.{Taken as Node_taken}
use Rattle.iss_request.specs.declared.requests.Value.{Value}
use Rattle.iss_keep.specs.Internal.Keeping.{Answers}
use Rattle.iss_keep.proofs.StepLemmas.{Enters, journaled, later, longer, short}
use Rattle.iss_keep.proofs.keeping.apply_then_append.Goals as goal

pub append_or_retreat-requires : goal.append_or_retreat-requires
append_or_retreat-requires g c =
    let outcome = c.in-Taken.outcome in
    let answer : Answers g.M.Sequenced.spec g.M.Sequenced.refines c.args.event c.args.node.now c.take.new.self (Node_taken outcome) =
    subst (λ (a : NodeAnswer). Answers g.M.Sequenced.spec g.M.Sequenced.refines c.args.event c.args.node.now c.take.new.self a) c.in-Taken.is c.take.ensures.answer in
    let enters : Enters g.M.Sequenced.spec g.M.Sequenced.refines c.args.event c.args.node.now c.take.new.self (Node_taken outcome) =
    subst (λ (a : NodeAnswer). Enters g.M.Sequenced.spec g.M.Sequenced.refines c.args.event c.args.node.now c.take.new.self a) c.in-Taken.is c.take.ensures.entered in
    let all : length c.entries-slots.result.now ≡ length c.args.node.now.state.log.entries =
    ap (λ (vs : List Value). length vs) (c.entries-slots.ensures ∙ ap (λ (z : LogState). z.entries) c.log.ensures.shown) in
    record {
      append = record {
        attached = c.requires.step.attached;
        short = short g.M.Sequenced.spec g.M.Sequenced.refines c.args.event c.args.node.now c.take.new.self outcome c.requires.step.good c.requires.step.core c.take.ensures.same.0
            c.take.ensures.same.1 answer enters _ c.requires.entry;
      };
      slots = longer g.M.Sequenced.spec g.M.Sequenced.refines c.args.event c.args.node.now c.take.new.self outcome c.requires.step.good c.requires.step.core c.take.ensures.same.0
          c.take.ensures.same.1 answer enters _ c.requires.entry (length c.entries-slots.result.now) all;
      epoch = later g.M.Sequenced.spec g.M.Sequenced.refines c.args.event c.args.node.now c.take.new.self outcome c.requires.step.good c.requires.step.core c.take.ensures.same.0
          c.take.ensures.same.1 answer enters _ c.requires.entry c.epoch-epoch.result.0 c.epoch-epoch.ensures.shown;
    }

pub returns-in-Taken : goal.returns-in-Taken
returns-in-Taken g c =
    let outcome = c.in-Taken.outcome in
    let answer : Answers g.M.Sequenced.spec g.M.Sequenced.refines c.args.event c.args.node.now c.take.new.self (Node_taken outcome) =
    subst (λ (a : NodeAnswer). Answers g.M.Sequenced.spec g.M.Sequenced.refines c.args.event c.args.node.now c.take.new.self a) c.in-Taken.is c.take.ensures.answer in
    let enters : Enters g.M.Sequenced.spec g.M.Sequenced.refines c.args.event c.args.node.now c.take.new.self (Node_taken outcome) =
    subst (λ (a : NodeAnswer). Enters g.M.Sequenced.spec g.M.Sequenced.refines c.args.event c.args.node.now c.take.new.self a) c.in-Taken.is c.take.ensures.entered in
    let all : length c.entries-slots.result.now ≡ length c.args.node.now.state.log.entries =
    ap (λ (vs : List Value). length vs) (c.entries-slots.ensures ∙ ap (λ (z : LogState). z.entries) c.log.ensures.shown) in
    journaled g.M.Sequenced.spec g.M.Sequenced.refines c.args.event c.args.node.now c.take.new.self outcome c.requires.step.good c.requires.step.core c.take.ensures.same.0
    c.take.ensures.same.1 answer enters _ c.requires.entry
    (length c.entries-slots.result.now) c.epoch-epoch.result.0 all c.epoch-epoch.ensures.shown c.append_or_retreat.new.node
    g.D.Disk.state c.args.journal.now c.append_or_retreat.new.journal c.append_or_retreat.new.entered c.append_or_retreat.result
    c.append_or_retreat.ensures.appended c.append_or_retreat.ensures.ended
