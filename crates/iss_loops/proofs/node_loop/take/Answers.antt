use Rattle.std.proofs.Common.{rules, ◌≡◌, ℕ, List, arith, subst}
use Rattle.iss_loops.proofs.NodeLemmas.{taken-gone}
use Rattle.iss_loops.specs.NodeBehavior.{IsStep}
use Rattle.iss_loops.specs.NodeLoop.{IsAt, send_each}
use Rattle.iss_loops.specs.declared.node.NodeStep.{NodeStep}
use Rattle.iss_loops.specs.declared.node.NodeStep.TheVariants.{Taken}
use Rattle.iss_sb.specs.declared.effects.To.{To}
use Rattle.iss_loops.proofs.node_loop.take.Goals as goal

pub returns-in_ok-send_each-in-Taken : goal.returns-in_ok-send_each-in-Taken
returns-in_ok-send_each-in-Taken g c =
    let still : g.L.Links.faults c.send_each.new.links ≡ g.L.Links.faults c.args.links.now = search rules in
    let idle = c.in_ok-send_each-in-Taken.ensures.idle_turns in
    record {
      goes = λ B events has.
          let was : IsStep B events c.args.event (g.N.JournaledNode.has c.take.new.self B) (Taken c.in-Taken.sends) =
          (let Q : NodeStep → Type 0 = λ x. IsStep B events c.args.event (g.N.JournaledNode.has c.take.new.self B) x in subst Q c.in-Taken.is (c.in_ok-sends.ensures.step B events has)) in
          taken-gone B c.args.event events (g.N.JournaledNode.has c.take.new.self B) (g.L.Links.ends c.args.links.now) (g.L.Links.ends c.send_each.new.links) c.args.progress.now c.send_each.new.progress c.in-Taken.sends was
          (λ es there w at.
          let o = c.of.ensures B es there in
          (let P : List (To × List ℕ) → Type 0 = λ xs. IsAt es (g.L.Links.ends c.send_each.new.links) c.send_each.new.progress (send_each B xs w) in
          subst P c.as_slice.ensures (c.in_ok-send_each-in-Taken.ensures.goes B o.1 o.0 es w at)));
      idle_turns = omega (arith, idle);
      cut = λ q. absurd (cc);
      links = record { never_falls = omega (arith, still); rose = λ q. absurd (cc); still = λ q. still };
      disk = record { never_falls = c.take.ensures.cause.never_falls; rose = λ q. absurd (cc) };
      place = c.take.ensures.place;
      same = c.take.ensures.same;
    }
