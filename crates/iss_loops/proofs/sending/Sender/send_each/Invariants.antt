use Rattle.std.proofs.Common.{◌≡◌, List, drop}
use Rattle.iss_rules.specs.declared.events.NodeEvent.{NodeEvent}
use Rattle.iss_loops.proofs.NodeLemmas.{Comes}
use Rattle.iss_loops.specs.NodeBehavior.{NodeBehavior}
use Rattle.iss_loops.specs.NodeLoop.{IsAt, NodeState, send_each}
use Rattle.iss_loops.proofs.sending.Sender.send_each.Given as goal

abbrev pub invariant-loop-send : goal.invariant-loop-send
invariant-loop-send g l = record {
  still : g.L.Links.faults l.links ≡ g.L.Links.faults l.fn.links;
  idle_turns : l.progress.idle_turns ≡ l.fn.progress.idle_turns;
  goes : (B : NodeBehavior) → B.setup.n ≡ l.self.nodes → B.me ≡ l.self.me → (events : List NodeEvent) (w : NodeState) → IsAt events (g.L.Links.ends l.fn.links) l.fn.progress w
      → Comes events (g.L.Links.ends l.links) l.progress (send_each B (drop l.send-index l.sends)) (send_each B l.sends w);
}
