use Rattle.std.proofs.Common.{rules, ◌≡◌, ◌∙◌, ◌++◌, ap, sym, map, List, [], Vec, ℕ, Global}
use Rattle.std.specs.BTreeMap.{values}
use Rattle.std.specs.List.{concat}
use Rattle.std.proofs.lemmas.List.{append-nil}
use Rattle.iss_links.specs.Reassembly.{payload}
use Rattle.iss_links.proofs.MapLemmas.{joined-values, joined-more}
use Rattle.iss_links.proofs.reassembly.PartialPacket.payload.Goals as goal

pub loop-bytes-init : goal.loop-bytes-init
loop-bytes-init c =
    let all : c.into_iter-bytes-iterator.result ≡ values c.self.inside.received = c.into_iter-bytes-iterator.ensures.into_iter_gives ∙ c.values-bytes-items.ensures.rest in
    let none : c.new-packet.result.items ≡ [] = c.new-packet.ensures.items in
    rw (none, all) (joined-values c.self.inside.received.entries ∙ ap payload c.self.view_is)

pub loop-bytes-preserved : goal.loop-bytes-preserved
loop-bytes-preserved c =
    let pushed : c.extend_from_slice.new.self.items ≡ c.loop-bytes.packet.items ++ c.in-Some.bytes.now.items = search rules in
    joined-more c.loop-bytes.packet.items c.in-Some.bytes.now.items c.extend_from_slice.new.self.items (payload c.args.self.now) c.loop-bytes.bytes-iterator c.next.new.self c.in-Some.bytes.now c.loop-bytes.invariant c.in-Some.ensures.steps pushed

pub returns : goal.returns
returns c =
    sym (append-nil c.loop-bytes.packet.items) ∙ ap (λ (vs : List (Vec ℕ Global)). c.loop-bytes.packet.items ++ concat (map (λ (v : Vec ℕ Global). v.items) vs)) (sym c.in-None.ensures.steps.0) ∙ c.loop-bytes.invariant
