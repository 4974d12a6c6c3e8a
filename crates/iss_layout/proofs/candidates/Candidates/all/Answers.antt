use Rattle.std.proofs.Common.{rules, length, arith, ◌<◌}
use Rattle.iss_layout.proofs.LayoutLemmas.{leaders_more}
use Rattle.iss_layout.proofs.candidates.Candidates.all.Goals as goal

pub loop-i-preserved : goal.loop-i-preserved
loop-i-preserved c =
    let within : c.loop-i.i < length c.loop-i.all = omega (arith, c.loop-i.invariant.size, c.args.self.now.few) in
    record {
      size = search rules;
      front = leaders_more c.loop-i.all c.loop-i.i within c.loop-i.invariant.front;
    }
