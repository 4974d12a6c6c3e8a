use Rattle.std.proofs.Common.{◌≡◌, ◌<◌, ◌∙◌, ℕ, List, true, length, get_or, [], ◌∷◌, ◌++◌, ap, arith, rules}
use Rattle.iss_network.specs.declared.packets.Sent.{Sent}
use Rattle.iss_network.specs.Network.{Network}
use Rattle.iss_network.specs.Kept.{flagged}
use Rattle.iss_network.proofs.Keeping.{posted_kept_at, posted_waits, any_default}
use Rattle.iss_network.proofs.network.Network.post.Goals as goal

pub invariant_of-self-2 : goal.invariant_of-self-2
invariant_of-self-2 c =
    let sent : Sent = record { from = c.args.from; to = c.args.to; bytes = c.args.bytes } in
    let cores : length c.self.inside.held.items ≡ length c.args.self.now.held = ap (λ w. length w.held) c.self.view_is in
    let small : c.args.to < length c.self.inside.held.items = omega arith in
    let there : c.args.to < length c.self.inside.queues.items = omega arith in
    let number : c.len-number.result ≡ length c.self.inside.packets.items = search rules in
    let queue : c.push.new.self ≡ get_or c.self.inside.queues.items c.args.to [] ++ length c.self.inside.packets.items ∷ [] =
    c.in_ok-push.ensures
    ∙ ap (λ q. q ++ c.len-number.result ∷ []) (c.index_mut.ensures.value ∙ any_default c.self.inside.queues.items c.args.to c.index_mut.result.now [] there)
    ∙ ap (λ n. get_or c.self.inside.queues.items c.args.to [] ++ n ∷ []) number in
    let more : c.put-2.new.items.items ≡ c.self.inside.packets.items ++ sent ∷ [] = c.put-2.ensures ∙ ap (λ ps. ps ++ sent ∷ []) c.in_ok-reserve.ensures.items in
    let raised : c.put.new.items.items ≡ c.self.inside.waiting.items ++ true ∷ [] = c.put.ensures ∙ ap (λ bs. bs ++ true ∷ []) c.in_ok-reserve-2.ensures.items in
    posted_kept_at c.self.inside.packets.items c.self.inside.waiting.items c.self.inside.queues.items c.self.inside.held.items sent c.push.new.self c.put-2.new.items.items c.put.new.items.items
    c.self.invariant small queue more raised

pub returns : goal.returns
returns c =
    let sent : Sent = record { from = c.args.from; to = c.args.to; bytes = c.args.bytes } in
    let more : c.put-2.new.items.items ≡ c.self.inside.packets.items ++ sent ∷ [] = c.put-2.ensures ∙ ap (λ ps. ps ++ sent ∷ []) c.in_ok-reserve.ensures.items in
    let raised : c.put.new.items.items ≡ c.self.inside.waiting.items ++ true ∷ [] = c.put.ensures ∙ ap (λ bs. bs ++ true ∷ []) c.in_ok-reserve-2.ensures.items in
    let waits : flagged c.put.new.items.items ≡ flagged c.self.inside.waiting.items ++ length c.self.inside.packets.items ∷ [] =
    ap flagged raised ∙ posted_waits c.self.inside.waiting.items ∙ ap (λ n. flagged c.self.inside.waiting.items ++ n ∷ []) c.self.invariant.0 in
    let seen : List Sent → List ℕ → Network = λ packets waits. record { packets = packets; waits = waits; held = c.self.inside.held.items } in
    rw (← c.self.view_is) (ap (λ ps. seen ps (flagged c.put.new.items.items)) more ∙ ap (seen (c.self.inside.packets.items ++ sent ∷ [])) waits)
