use Rattle.sb_pbft.proofs.Refinement.SettleRefines.{settles-one}
use Rattle.sb_pbft.proofs.pbft.Pbft.settle_at.Goals as goal

pub returns : goal.returns
returns c = settles-one c.args.context.now.p.now c.args.touched.answers c.args.touched.view c.args.slot c.args.self.now c.commit.new.self c.deliver_committed.new.self c.args.keys.now c.prepare_if_asked.new.keys c.commit.new.keys
    c.args.effects.now c.prepare_if_asked.new.effects c.commit.new.effects c.deliver_committed.new.effects c.in_ok-prepare_if_asked.ensures c.in_ok-commit.ensures c.in_ok-deliver_committed.ensures
