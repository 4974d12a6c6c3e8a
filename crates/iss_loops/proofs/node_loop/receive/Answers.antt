use Rattle.std.proofs.Common.{rules, ◌∙◌, ◌≡◌, ap, sym, false, List, ℕ, Vec, Global, Some, option_map}
use Rattle.iss_loops.proofs.PartLemmas.{does-as, does-then, idles, received, takes-frames}
use Rattle.iss_loops.specs.Loop.{packet_at}
use Rattle.iss_loops.specs.NodeLoop.{arrives, receives, takes}
use Rattle.iss_loops.specs.NodeSteps.{seen}
use Rattle.iss_rules.specs.declared.events.NodeEvent.TheVariants.{Packet}
use Rattle.iss_loops.proofs.node_loop.receive.Goals as goal

pub returns-in-Some : goal.returns-in-Some
returns-in-Some g c =
    let here = seen g.N.JournaledNode.has g.N.JournaledNode.leaves g.N.JournaledNode.nodes g.N.JournaledNode.place g.N.JournaledNode.faults g.L.Links.ends g.L.Links.faults c.args.node.now c.args.links.now c.args.progress.now in
    let still : g.L.Links.faults c.take_packet.new.links ≡ g.L.Links.faults c.args.links.now = search rules in
    let me = c.me-me.result in
    let most = c.args.most in
    let bytes : List ℕ = c.of.result in
    does-as 0 (λ B w. arrives B (Some bytes) (record w { ends = (packet_at B.me most w.ends).1 })) (λ B. receives B most) _ _ c.take.result
    (received me most (Some bytes) here (λ B events has. c.me-me.ensures.is B events has)
    (λ es is. ap (λ (bs : List ℕ). Some bs) c.of.ensures ∙ ap (option_map (λ (v : Vec ℕ Global). v.items)) (sym c.in-Some.is) ∙ c.in_ok-packet.ensures.packet es is))
    (does-then 0 0 (λ B w. record w { ends = (packet_at B.me most w.ends).1 }) (λ B w. takes B (Packet bytes) (record w { idle = false })) _ _ _ c.take.result
    (takes-frames me most here (g.L.Links.ends c.take_packet.new.links) (g.L.Links.faults c.take_packet.new.links) (λ B events has. c.me-me.ensures.is B events has) c.in_ok-packet.ensures.ends still)
    (does-then 0 0 (λ B w. record w { idle = false }) (λ B. takes B (Packet bytes)) _ _ _ c.take.result (idles false _) c.take.ensures))
