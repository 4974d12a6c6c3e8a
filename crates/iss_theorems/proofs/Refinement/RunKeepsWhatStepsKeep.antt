-- Every run keeps what each step of a core and each change of the network keeps.
use Rattle.std.proofs.Common.{◌≡◌, ℕ, zero, suc, Bool, true, false, cond, List, [], ◌∷◌, Option, Some, None, refl}
use Rattle.iss_base.specs.Lists.{nth}
use Rattle.iss_network.specs.Network.{Network, due, settled}
use Rattle.iss_network.specs.declared.packets.Sent.{Sent}
use Rattle.iss_request.specs.declared.setups.Setup.{Setup}
use Rattle.iss_schedule.specs.declared.schedules.Event.{Event}
use Rattle.iss_schedule.specs.declared.schedules.Event.TheVariants.{Request as Event_request, Propose, Timeout as Event_timeout, Ask, Deliver, Lose, Pump, Calm, Hold, Free, Drop as Event_drop, Restart, Crash, Bytes}
use Rattle.iss_sb.specs.declared.effects.Claim.{Claim}
use Rattle.iss_sb.specs.Evidence.{Module}
use Rattle.iss_rules.specs.Ends.{End}
use Rattle.iss_rules.specs.declared.events.NodeEvent.{NodeEvent}
use Rattle.iss_rules.specs.declared.events.NodeEvent.TheVariants.{Packet as On_packet, Propose as On_propose, Timeout as On_timeout, AskFrom as On_ask}
use Rattle.iss_rules.specs.Concrete.{request_of}
use Rattle.iss_rules.specs.Parcels.{Formats, OfRequest}
use Rattle.iss_rules.specs.Rules.{Rules}
use Rattle.iss_model.specs.Node.{Dropped, Stepped, Taken, Turn, step}
use Rattle.iss_model.specs.Run.{Held, after_step, at_core, by_collision, by_forged, collision_in, first_forged, node_of, turned_to, with_network, failure_free}
use Rattle.iss_model.specs.Driver.{Progress, Upshot, apply_event, calms, delivered_to, delivers, delivers_each, done, loses, pumps, run, run_event_if_open, unless}

module _ {Msg : Type 0} (s : Setup) (F : Formats Msg) (R : Rules) (M : Module Msg) (P : Held Msg → Type 0)
    (network : (h : Held Msg) (net : Network) → P h → P (with_network h net))
    (turns : (h : Held Msg) (c : ℕ) (event : NodeEvent) (t : Turn Msg) → step F R M (node_of s c) (h.net.cores c) event ≡ Taken t → P h → P (turned_to s h c t)) where
  collided-holds : (h : Held Msg) (c : ℕ) (event : NodeEvent) (t : Turn Msg) → step F R M (node_of s c) (h.net.cores c) event ≡ Taken t → P h → (o : Option End) →
      P (by_collision o h (turned_to s h c t)).state
  collided-holds h c event t q k None = turns h c event t q k
  collided-holds h c event t q k (Some end) = k

  after-holds : (h : Held Msg) (c : ℕ) (event : NodeEvent) → P h → (o : Stepped Msg) → step F R M (node_of s c) (h.net.cores c) event ≡ o → P (after_step s h c o).state
  after-holds h c event k (Dropped why) q = k
  after-holds h c event k (Taken t) q = collided-holds h c event t q k (collision_in t.strings h.hashed)

  forged-holds : (h : Held Msg) (d : Upshot (Held Msg)) → P h → P d.state → (f : Option Claim) → P (by_forged f h d).state
  forged-holds h d k m None = m
  forged-holds h d k m (Some claim) = k

  at-holds : (h : Held Msg) → P h → (c : ℕ) (event : NodeEvent) → P (at_core s F R M h c event).state
  at-holds h k c event =
      let o = step F R M (node_of s c) (h.net.cores c) event in
      forged-holds h (after_step s h c o) k (after-holds h c event k o refl) (first_forged s R h.signed _)

  unless-holds : (d : Upshot (Held Msg)) (more : Held Msg → Upshot (Held Msg)) → P d.state → ((g : Held Msg) → P g → P (more g).state) → (o : Option End) → P (unless o d more).state
  unless-holds d more k f None = f d.state k
  unless-holds d more k f (Some end) = k

  delivered-holds : (h : Held Msg) → P h → (k : ℕ) (o : Option Sent) → P (delivered_to (failure_free s F R M) h k o).state
  delivered-holds h m k None = m
  delivered-holds h m k (Some p) =
      at-holds (with_network h (settled h.net.network k)) (network h (settled h.net.network k) m) p.to (On_packet p.bytes)

  each-holds : (ks : List ℕ) (h : Held Msg) → P h → P (delivers_each (failure_free s F R M) ks h).state
  each-holds [] h m = m
  each-holds (k ∷ ks) h m =
      let d = delivers (failure_free s F R M) h k in
      unless-holds d (delivers_each (failure_free s F R M) ks) (delivered-holds h m k (nth h.net.network.packets k)) (λ g z. each-holds ks g z) d.ended

  calms-holds : (n : ℕ) (h : Held Msg) → P h → P (calms (failure_free s F R M) n h).state
  calms-holds zero h m = m
  calms-holds (suc n) h m =
      let d = pumps (failure_free s F R M) h in
      unless-holds d (calms (failure_free s F R M) n) (each-holds (due h.net.network) h m) (λ g z. calms-holds n g z) d.ended

  loses-holds : (h : Held Msg) → P h → (k : ℕ) (o : Option Sent) → P (loses (failure_free s F R M) h k o).state
  loses-holds h m k None = m
  loses-holds h m k (Some p) = network h (settled h.net.network k) m

  injects-holds : (h : Held Msg) → P h → (c : ℕ) (bytes : List ℕ) (b : Bool) → P (cond b (done h) (at_core s F R M h c (On_packet bytes))).state
  injects-holds h m c bytes true = m
  injects-holds h m c bytes false = at-holds h m c (On_packet bytes)

  happens-holds : (h : Held Msg) → P h → (e : Event) → P (apply_event (failure_free s F R M) h e).state
  happens-holds h m (Event_request c client number payload) =
      at-holds h m c (On_packet (F.wrap (record { from = 255; epoch = 0; body = OfRequest (request_of s client number payload) })))
  happens-holds h m (Propose c) = at-holds h m c On_propose
  happens-holds h m (Event_timeout c l) = at-holds h m c (On_timeout l)
  happens-holds h m (Ask c peer) = at-holds h m c (On_ask peer)
  happens-holds h m (Deliver k) = delivered-holds h m k (nth h.net.network.packets k)
  happens-holds h m (Lose k) = loses-holds h m k (nth h.net.network.packets k)
  happens-holds h m Pump = each-holds (due h.net.network) h m
  happens-holds h m (Calm n) = calms-holds n h m
  happens-holds h m (Hold c) = network h _ m
  happens-holds h m (Free c) = network h _ m
  happens-holds h m (Event_drop c) = network h _ m
  happens-holds h m (Restart c) = m
  happens-holds h m (Crash c calls) = m
  happens-holds h m (Bytes c bytes) = injects-holds h m c bytes M.stopping

  further-holds : (p : Progress (Held Msg)) → P p.state → (e : Event) (o : Option (ℕ × End)) → P (run_event_if_open o (failure_free s F R M) p e).state
  further-holds p m e None = happens-holds p.state m e
  further-holds p m e (Some end) = m

  pub run-holds : (es : List Event) (p : Progress (Held Msg)) → P p.state → P (run (failure_free s F R M) p es).state
  run-holds [] p m = m
  run-holds (e ∷ es) p m = run-holds es (run_event_if_open p.ended (failure_free s F R M) p e) (further-holds p m e p.ended)
