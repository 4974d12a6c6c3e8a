use Rattle.std.proofs.Common.{sym}
use Rattle.sb_pbft.proofs.Refinement.ViewChangeRefines.{begun-does, skipped-does}
use Rattle.sb_pbft.proofs.pbft.Pbft.take_new_view.Goals as goal

pub returns-then-not-enters : goal.returns-then-not-enters
returns-then-not-enters c = λ sig.
    skipped-does c.args.context.now.p.now c.args.self.now c.args.new.from c.args.new.view _ c.args.new.changes _ c.args.new.signatures sig c.args.keys.now _ c.as_slice-shown.ensures
    c.as_slice-signed.ensures
    (sym c.if-not-enters.ensures) c.nothing-effects.ensures

pub returns : goal.returns
returns c = λ sig.
    begun-does c.args.context.now.p.now c.args.self.now c.settle.new.self c.args.new.from c.args.new.view c.as_slice-shown.result.now c.as_slice-signed.result.now
    c.put_choices.new.proposals c.follows-answers.result
    c.args.keys.now c.settle.new.keys c.nothing-effects.result c.hash_changes.new.effects c.hash_choices.new.effects c.settle.new.effects c.args.new.changes
    c.args.new.signatures c.as_slice-slots.result.now sig
    c.args.context.now.good.some c.as_slice-shown.ensures c.as_slice-signed.ensures c.as_slice-slots.ensures (record {
      entering = sym c.if-not-enters.ensures;
      nothing = c.nothing-effects.ensures;
      values = c.in_ok-hash_changes.ensures;
      choices = c.in_ok-hash_choices.ensures;
      proposed = c.in_ok-put_choices.ensures;
      follows = c.follows-answers.ensures;
      settles = c.in_ok-settle.ensures;
    })
