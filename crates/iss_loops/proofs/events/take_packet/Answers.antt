use Rattle.std.proofs.Common.{rules}
use Rattle.iss_loops.proofs.TakeLemmas.{ends-got, ends-nothing, goes-on}
use Rattle.iss_loops.proofs.events.take_packet.Goals as goal

pub returns-in-Got-clause-packet : goal.returns-in-Got-clause-packet
returns-in-Got-clause-packet g c = λ ends is.
    (ends-got c.args.at c.args.most c.loop.counter _ _ _ c.in-Got.packet _ c.loop-test.true (c.loop.invariant.taken ends is) c.in-Got.is c.in_ok-packet.ensures.arrival c.in_ok-packet.ensures.ends).0

pub returns-in-Got-clause-ends : goal.returns-in-Got-clause-ends
returns-in-Got-clause-ends g c = λ ends is.
    (ends-got c.args.at c.args.most c.loop.counter _ _ _ c.in-Got.packet _ c.loop-test.true (c.loop.invariant.taken ends is) c.in-Got.is c.in_ok-packet.ensures.arrival c.in_ok-packet.ensures.ends).1

pub returns-in-Nothing-clause-packet : goal.returns-in-Nothing-clause-packet
returns-in-Nothing-clause-packet g c = λ ends is.
    (ends-nothing c.args.at c.args.most c.loop.counter _ _ _ _ c.loop-test.true (c.loop.invariant.taken ends is) c.in-Nothing.is c.in_ok-packet.ensures.arrival c.in_ok-packet.ensures.ends).0

pub returns-in-Nothing-clause-ends : goal.returns-in-Nothing-clause-ends
returns-in-Nothing-clause-ends g c = λ ends is.
    (ends-nothing c.args.at c.args.most c.loop.counter _ _ _ _ c.loop-test.true (c.loop.invariant.taken ends is) c.in-Nothing.is c.in_ok-packet.ensures.arrival c.in_ok-packet.ensures.ends).1

pub loop-preserved : goal.loop-preserved
loop-preserved g c = record {
  still = search rules;
  taken = λ ends is. goes-on c.args.at c.args.most c.loop.counter _ _ _ _ c.loop-test.true (c.loop.invariant.taken ends is) c.in-Part.is c.in_ok-packet.ensures.arrival c.in_ok-packet.ensures.ends;
}
