-- Every run with disk failures keeps what is kept by a journaled step, by a change of what waits in the network, by a
-- disk that loses no event, and by a restart.
use Rattle.std.proofs.Common.{◌≡◌, ℕ, zero, suc, Bool, true, false, cond, List, [], ◌∷◌, ◌++◌, Option, Some, None, refl, sym, subst}
use Rattle.iss_base.specs.Lists.{nth, set_at}
use Rattle.iss_network.specs.Network.{Network, due, settled}
use Rattle.iss_network.specs.declared.packets.Sent.{Sent}
use Rattle.iss_request.specs.declared.setups.Setup.{Setup}
use Rattle.iss_schedule.specs.declared.schedules.Event.{Event}
use Rattle.iss_schedule.specs.declared.schedules.Event.TheVariants.{Request as Event_request, Propose, Timeout as Event_timeout, Ask, Deliver, Lose, Pump, Calm, Hold, Free, Drop as Event_drop, Restart, Crash, Bytes}
use Rattle.iss_sb.specs.declared.effects.Claim.{Claim}
use Rattle.iss_sb.specs.Evidence.{Module}
use Rattle.iss_rules.specs.Ends.{End}
use Rattle.iss_rules.specs.declared.events.NodeEvent.{NodeEvent}
use Rattle.iss_rules.specs.declared.events.NodeEvent.TheVariants.{Packet as On_packet, Propose as On_propose, Timeout as On_timeout, AskFrom as On_ask}
use Rattle.iss_rules.specs.declared.events.Why.{Why}
use Rattle.iss_rules.specs.declared.events.Why.TheVariants.{Stopped}
use Rattle.iss_rules.specs.Concrete.{request_of}
use Rattle.iss_rules.specs.Parcels.{Formats, OfRequest}
use Rattle.iss_rules.specs.Rules.{Rules}
use Rattle.iss_model.specs.Node.{Dropped, Stepped, Taken, Turn, step}
use Rattle.iss_model.specs.Run.{by_collision, by_forged, claims_at, collision_in, early_of, first_forged, node_of, turned_to, after_step as free_step, Held}
use Rattle.iss_model.specs.Courses.{Course, Machines, at_machine, by_step, recover, stops, with_disk, with_disks, with_packets, with_crashes}
use Rattle.iss_model.specs.Disks.{Disk, fails, keeps, may_keep}
use Rattle.iss_model.specs.Driver.{Upshot, apply_event, calms, delivered_to, delivers, delivers_each, done, loses, lost_by, pumps, run, run_event_if_open, unless}

module _ {Msg : Type 0} (s : Setup) (F : Formats Msg) (R : Rules) (M : Module Msg) where
  -- the state after core c has journaled an event and taken the turn that it leads to
  abbrev pub turned : Machines Msg → ℕ → NodeEvent → Turn Msg → Machines Msg
  turned w c event t = record { held = turned_to s w.held c t; disks = set_at w.disks c (keeps (w.disks c) event) }

  -- the claims that this step read
  abbrev pub read_at : Machines Msg → ℕ → NodeEvent → Turn Msg → List Claim
  read_at w c event t = claims_at F R M (node_of s c) (w.held.net.cores c) event ++ t.early

module _ {Msg : Type 0} (s : Setup) (F : Formats Msg) (R : Rules) (M : Module Msg) (P : Machines Msg → Type 0)
    (network : (w : Machines Msg) (net : Network) → net.packets ≡ w.held.net.network.packets → P w → P (with_packets w net))
    (disk : (w : Machines Msg) (c : ℕ) (d : Disk) → d.kept ≡ (w.disks c).kept → P w → P (with_disk w c d))
    (turns : (w : Machines Msg) (c : ℕ) (event : NodeEvent) (t : Turn Msg) → step F R M (node_of s c) (w.held.net.cores c) event ≡ Taken t →
    first_forged s R w.held.signed (read_at s F R M w c event t) ≡ None → P w → P (turned s F R M w c event t))
    (recovers : (w : Machines Msg) (c : ℕ) → P w → P (recover s F R M w c)) where
  -- ---- one core

  module _ (w : Machines Msg) (k : P w) (c : ℕ) (event : NodeEvent) where
    abbrev its_step : Stepped Msg
    its_step = step F R M (node_of s c) (w.held.net.cores c) event

    abbrev claims : List Claim
    claims = claims_at F R M (node_of s c) (w.held.net.cores c) event

    -- what happens at the core, by the result of its step
    abbrev at_step : Stepped Msg → Upshot (Held Msg)
    at_step o = by_forged (first_forged s R w.held.signed (claims ++ early_of o)) w.held (free_step s w.held c o)

    abbrev more : ℕ → Disk
    more = set_at w.disks c (keeps (w.disks c) event)

    dropped-holds : (why : Why) (f : Option Claim) → P (with_disks w w.disks (by_forged f w.held (lost_by w.held why))).state
    dropped-holds why None = k
    dropped-holds why (Some claim) = k

    taken-holds : (t : Turn Msg) → its_step ≡ Taken t → (f : Option Claim) → first_forged s R w.held.signed (claims ++ t.early) ≡ f → (o : Option End) →
        P (with_disks w more (by_forged f w.held (by_collision o w.held (turned_to s w.held c t)))).state
    taken-holds t q None z None = turns w c event t q z k
    taken-holds t q None z (Some end) = k
    taken-holds t q (Some claim) z o = k

    stops-holds : (f : Option Claim) → P (stops f w c).state
    stops-holds None = disk w c (fails (w.disks c)) refl k
    stops-holds (Some claim) = k

    kept-holds : (t : Turn Msg) → its_step ≡ Taken t → (b : Bool) (f : Option Claim) → P (cond b (with_disks w more (at_step its_step)) (stops f w c)).state
    kept-holds t q true f =
        subst (λ (o : Stepped Msg). P (with_disks w more (at_step o)).state) (sym q)
        (taken-holds t q (first_forged s R w.held.signed (claims ++ t.early)) refl (collision_in t.strings w.held.hashed))
    kept-holds t q false f = stops-holds f

    step-holds : (o : Stepped Msg) → its_step ≡ o → P (by_step s F R M w c event o).state
    step-holds (Dropped why) q =
        subst (λ (o : Stepped Msg). P (with_disks w w.disks (at_step o)).state) (sym q)
        (dropped-holds why (first_forged s R w.held.signed (claims ++ [])))
    step-holds (Taken t) q = kept-holds t q (may_keep (w.disks c).passes) (first_forged s R w.held.signed claims)

    failed-holds : (b : Bool) → P (cond b (lost_by w Stopped) (by_step s F R M w c event its_step)).state
    failed-holds true = k
    failed-holds false = step-holds its_step refl

    at-holds : P (at_machine s F R M w c event).state
    at-holds = failed-holds (w.disks c).failed

  -- ---- packets and events

  unless-holds : (d : Upshot (Machines Msg)) (more : Machines Msg → Upshot (Machines Msg)) → P d.state → ((v : Machines Msg) → P v → P (more v).state) → (o : Option End) →
      P (unless o d more).state
  unless-holds d more k f None = f d.state k
  unless-holds d more k f (Some end) = k

  delivered-holds : (w : Machines Msg) → P w → (k : ℕ) (o : Option Sent) → P (delivered_to (with_crashes s F R M) w k o).state
  delivered-holds w m k None = m
  delivered-holds w m k (Some p) =
      let net = settled w.held.net.network k in
      at-holds (with_packets w net) (network w net refl m) p.to (On_packet p.bytes)

  each-holds : (ks : List ℕ) (w : Machines Msg) → P w → P (delivers_each (with_crashes s F R M) ks w).state
  each-holds [] w m = m
  each-holds (k ∷ ks) w m =
      let d = delivers (with_crashes s F R M) w k in
      unless-holds d (delivers_each (with_crashes s F R M) ks) (delivered-holds w m k (nth w.held.net.network.packets k)) (λ v z. each-holds ks v z) d.ended

  calms-holds : (n : ℕ) (w : Machines Msg) → P w → P (calms (with_crashes s F R M) n w).state
  calms-holds zero w m = m
  calms-holds (suc n) w m =
      let d = pumps (with_crashes s F R M) w in
      unless-holds d (calms (with_crashes s F R M) n) (each-holds (due w.held.net.network) w m) (λ v z. calms-holds n v z) d.ended

  loses-holds : (w : Machines Msg) → P w → (k : ℕ) (o : Option Sent) → P (loses (with_crashes s F R M) w k o).state
  loses-holds w m k None = m
  loses-holds w m k (Some p) = network w (settled w.held.net.network k) refl m

  injects-holds : (w : Machines Msg) → P w → (c : ℕ) (bytes : List ℕ) (b : Bool) →
      P (cond b (done w) (at_machine s F R M w c (On_packet bytes))).state
  injects-holds w m c bytes true = m
  injects-holds w m c bytes false = at-holds w m c (On_packet bytes)

  happens-holds : (w : Machines Msg) → P w → (e : Event) → P (apply_event (with_crashes s F R M) w e).state
  happens-holds w m (Event_request c client number payload) =
      at-holds w m c (On_packet (F.wrap (record { from = 255; epoch = 0; body = OfRequest (request_of s client number payload) })))
  happens-holds w m (Propose c) = at-holds w m c On_propose
  happens-holds w m (Event_timeout c l) = at-holds w m c (On_timeout l)
  happens-holds w m (Ask c peer) = at-holds w m c (On_ask peer)
  happens-holds w m (Deliver k) = delivered-holds w m k (nth w.held.net.network.packets k)
  happens-holds w m (Lose k) = loses-holds w m k (nth w.held.net.network.packets k)
  happens-holds w m Pump = each-holds (due w.held.net.network) w m
  happens-holds w m (Calm n) = calms-holds n w m
  happens-holds w m (Hold c) = network w _ refl m
  happens-holds w m (Free c) = network w _ refl m
  happens-holds w m (Event_drop c) = network w _ refl m
  happens-holds w m (Restart c) = recovers w c m
  happens-holds w m (Crash c calls) = disk w c _ refl m
  happens-holds w m (Bytes c bytes) = injects-holds w m c bytes M.stopping

  further-holds : (p : Course Msg) → P p.state → (e : Event) (o : Option (ℕ × End)) → P (run_event_if_open o (with_crashes s F R M) p e).state
  further-holds p m e None = happens-holds p.state m e
  further-holds p m e (Some end) = m

  pub course-holds : (es : List Event) (p : Course Msg) → P p.state → P (run (with_crashes s F R M) p es).state
  course-holds [] p m = m
  course-holds (e ∷ es) p m = course-holds es (run_event_if_open p.ended (with_crashes s F R M) p e) (further-holds p m e p.ended)
