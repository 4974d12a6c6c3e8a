use Rattle.std.proofs.Common.{refl, arith}
use Rattle.sb_relay.proofs.Marks.{no-leaf, idle_timeout-refines, idle_timeout-taken}
use Rattle.sb_relay.proofs.relay.RelaySequenced.apply.Goals as goal

pub returns-in_ok-cast-in-Cast : goal.returns-in_ok-cast-in-Cast
returns-in_ok-cast-in-Cast c = rw c.in-Cast.is (record {
  refined = λ me xs st _. c.in_ok-cast-in-Cast.ensures.refines me xs c.args._keys.now.used st;
  effects = λ me xs st _. c.in_ok-cast-in-Cast.ensures.effects me xs c.args._keys.now.used st;
  used = λ me xs st _. no-leaf _ c.args._keys.now.used;
  within = record {
    delivered = c.in_ok-cast-in-Cast.ensures.within.delivered;
    accepted = c.in_ok-cast-in-Cast.ensures.within.accepted;
    addressed = c.in_ok-cast-in-Cast.ensures.within.addressed;
    same_secret = refl;
    same_height = refl;
    leaves = omega arith;
    few = omega arith;
  };
  enough = omega arith;
})

pub returns-in_ok-hear-in-Receive : goal.returns-in_ok-hear-in-Receive
returns-in_ok-hear-in-Receive c = rw c.in-Receive.is (record {
  refined = λ me xs st _. c.in_ok-hear-in-Receive.ensures.refines me xs c.args._keys.now.used st;
  effects = λ me xs st _. c.in_ok-hear-in-Receive.ensures.effects me xs c.args._keys.now.used st;
  used = λ me xs st _. omega arith;
  within = record {
    delivered = c.in_ok-hear-in-Receive.ensures.within.delivered;
    accepted = c.in_ok-hear-in-Receive.ensures.within.accepted;
    addressed = c.in_ok-hear-in-Receive.ensures.within.addressed;
    same_secret = refl;
    same_height = refl;
    leaves = omega arith;
    few = omega arith;
  };
  enough = omega arith;
})

pub returns-in-Timeout : goal.returns-in-Timeout
returns-in-Timeout c = let nothing = c.nothing.ensures in rw c.in-Timeout.is (record {
  refined = λ me xs st _. idle_timeout-refines c.args.self.now c.args.p.now me xs st c.args._keys.now.used;
  effects = λ me xs st _. idle_timeout-taken c.args.self.now c.args.p.now me xs st c.args._keys.now.used _ nothing;
  used = λ me xs st _. omega arith;
  within = record {
    delivered = let none = nothing.delivers in rw none tt;
    accepted = let none = nothing.accepted in rw none tt;
    addressed = let none = nothing.sends in rw none tt;
    same_secret = refl;
    same_height = refl;
    leaves = omega arith;
    few = omega arith;
  };
  enough = omega arith;
})
