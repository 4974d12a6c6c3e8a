-- A run that stopped shows why: in what the event with that number gave to a core.
use Rattle.std.proofs.Common.{◌≡◌, ◌⊎◌, inl, inr, ℕ, zero, suc, ◌+◌, Bool, true, false, cond, List, [], ◌∷◌, ◌++◌, Option, Some, None, refl, sym, ap, ◌∙◌, subst, arith}
use Rattle.iss_base.specs.Lists.{nth, set_at}
use Rattle.iss_base.proofs.Lists.{in_left, some-injective}
use Rattle.iss_network.specs.Network.{due, settled}
use Rattle.iss_network.specs.declared.packets.Sent.{Sent}
use Rattle.iss_request.specs.declared.setups.Setup.{Setup}
use Rattle.iss_schedule.specs.declared.schedules.Event.{Event}
use Rattle.iss_schedule.specs.declared.schedules.Event.TheVariants.{Request as Event_request, Propose, Timeout as Event_timeout, Ask, Deliver, Lose, Pump, Calm, Hold, Free, Drop as Event_drop, Restart, Crash, Bytes}
use Rattle.iss_sb.specs.declared.effects.Claim.{Claim}
use Rattle.iss_sb.specs.Evidence.{Module}
use Rattle.iss_rules.specs.declared.events.NodeEvent.{NodeEvent}
use Rattle.iss_rules.specs.declared.events.NodeEvent.TheVariants.{Packet as On_packet, Propose as On_propose, Timeout as On_timeout, AskFrom as On_ask}
use Rattle.iss_rules.specs.declared.events.Why.TheVariants.{Stopped}
use Rattle.iss_rules.specs.Concrete.{rules_of, request_of}
use Rattle.iss_rules.specs.Formats.{formats_of}
use Rattle.iss_rules.specs.Parcels.{Formats, OfRequest}
use Rattle.iss_rules.specs.SoundRules.{IsSoundRules}
use Rattle.iss_rules.specs.Rules.{Rules}
use Rattle.iss_rules.specs.Ends.{Collision, End, Forged}
use Rattle.iss_rules.specs.Setups.{IsSetupOf}
use Rattle.iss_rules.proofs.Layouts.{sound-rules}
use Rattle.iss_model.specs.Node.{Dropped, Stepped, Taken, Turn, step}
use Rattle.iss_model.specs.Run.{Held, by_collision, by_forged, claims_at, collision_in, early_of, first_forged, node_of, turned_to, after_step as free_step}
use Rattle.iss_model.specs.Courses.{Course, Machines, at_machine, begin_course, by_step, disks_behind, stops, with_disks, with_packets, with_crashes}
use Rattle.iss_model.specs.Disks.{Disk, keeps, may_keep}
use Rattle.iss_model.specs.Driver.{Upshot, apply_event, calms, delivered_to, delivers, delivers_each, done, ended_at, loses, lost_by, pumps, run, run_event, unless}
use Rattle.iss_theorems.specs.Ends.{Gives, HasCollided, HasEvidence, IsEvidenced, IsForgery, IsPacketFor, Took}
use Rattle.iss_theorems.proofs.CrashRecovery.LostEventsAreNumbered.{after-stays, course-stays, further-on}
use Rattle.iss_theorems.proofs.StoppedRuns.EvidenceIsValid.{collided-with, collision-shown, forged-shown}

module _ {Msg : Type 0} (s : Setup) (F : Formats Msg) (R : Rules) (M : Module Msg) (sound : IsSoundRules s M R) (e : Event) where
  -- the outcome of an event shows its evidence, if it has any
  abbrev Tells : Upshot (Machines Msg) → Type 0
  Tells d = (end : End) → d.ended ≡ Some end → IsEvidenced s F R M d.state e end

  still-tells : (d : Upshot (Machines Msg)) → d.ended ≡ None → Tells d
  still-tells d q end k = absurd (cc)

  -- ---- what a core took

  module _ (w : Machines Msg) (c : ℕ) (event : NodeEvent) (given : Gives s F w.held.net.network.packets e c event) (works : (w.disks c).failed ≡ false) where
    abbrev took : Took s F w e
    took = record { core = c; event = event; given = given; works = works }

    abbrev its_step : Stepped Msg
    its_step = step F R M (node_of s c) (w.held.net.cores c) event

    abbrev claims : List Claim
    claims = claims_at F R M (node_of s c) (w.held.net.cores c) event

    -- what happens at the core, by the result of its step
    abbrev at_step : Stepped Msg → Upshot (Held Msg)
    at_step o = by_forged (first_forged s R w.held.signed (claims ++ early_of o)) w.held (free_step s w.held c o)

    forgery : (claim : Claim) → first_forged s R w.held.signed (claims ++ early_of its_step) ≡ Some claim → IsForgery s F R M w e claim
    forgery claim q =
        let r = forged-shown s R w.held.signed (claims ++ early_of its_step) claim q in
        record {
          at = took;
          read = r.held;
          verifies = r.verifies;
          by_key = sound.signers claim.by.0 claim.statement claim.sig r.verifies;
          correct = r.correct;
          unsent = r.absent;
        }

    -- a forged claim in what is received, where the disk fails
    forgery-read : (claim : Claim) → first_forged s R w.held.signed claims ≡ Some claim → IsForgery s F R M w e claim
    forgery-read claim q =
        let r = forged-shown s R w.held.signed claims claim q in
        record {
          at = took;
          read = in_left claim claims (early_of its_step) r.held;
          verifies = r.verifies;
          by_key = sound.signers claim.by.0 claim.statement claim.sig r.verifies;
          correct = r.correct;
          unsent = r.absent;
        }

    -- the evidence of an outcome that leaves the state as it was
    abbrev Reveals : Upshot (Held Msg) → Type 0
    Reveals d = (end : End) → d.ended ≡ Some end → IsEvidenced s F R M w e end

    forged-tells : (o : Stepped Msg) → its_step ≡ o → (f : Option Claim) → first_forged s R w.held.signed (claims ++ early_of o) ≡ f →
        Reveals (free_step s w.held c o) → Reveals (by_forged f w.held (free_step s w.held c o))
    forged-tells o q None z more = more
    forged-tells o q (Some claim) z more = λ end k.
        let there : first_forged s R w.held.signed (claims ++ early_of its_step) ≡ Some claim =
        ap (λ (x : Stepped Msg). first_forged s R w.held.signed (claims ++ early_of x)) q ∙ z in
        subst (λ (x : End). IsEvidenced s F R M w e x) (some-injective (Forged claim) end k) (forgery claim there)

    collided-tells : (t : Turn Msg) → its_step ≡ Taken t → may_keep (w.disks c).passes ≡ true → (o : Option End) → collision_in t.strings w.held.hashed ≡ o →
        Reveals (by_collision o w.held (turned_to s w.held c t))
    collided-tells t q room None z = λ end k. absurd (cc)
    collided-tells t q room (Some end) z = λ other k.
        let r = collided-with t.strings w.held.hashed end z in
        let is : Collision r.0 r.1 ≡ other = sym r.2 ∙ some-injective end other k in
        let shown : HasCollided s F R M w e r.0 r.1 =
        record {
          at = took;
          turn = t;
          taken = q;
          kept = room;
          strings = collision-shown t.strings w.held.hashed r.0 r.1 (z ∙ ap (λ (x : End). Some x) r.2);
        } in
        subst (λ (x : End). IsEvidenced s F R M w e x) is shown

    -- where evidence ends the run, the state is as before
    by-happening : (behind : ℕ → Disk) (d : Upshot (Held Msg)) → (d.ended ≡ None) ⊎ (d.state ≡ w.held) → Reveals d → Tells (with_disks w behind d)
    by-happening behind d (inl q) more end k = absurd (cc)
    by-happening behind d (inr q) more end k =
        let same : (with_disks w behind d).state ≡ w =
        ap (λ (o : Option End). (let m : Machines Msg = record { held = d.state; disks = disks_behind o w.disks behind } in m)) k
        ∙ ap (λ (h : Held Msg). (let m : Machines Msg = record { held = h; disks = w.disks } in m)) q in
        subst (λ (m : Machines Msg). IsEvidenced s F R M m e end) (sym same) (more end k)

    collided-held : (t : Turn Msg) (o : Option End) →
        ((by_collision o w.held (turned_to s w.held c t)).ended ≡ None) ⊎ ((by_collision o w.held (turned_to s w.held c t)).state ≡ w.held)
    collided-held t None = inl refl
    collided-held t (Some end) = inr refl

    forged-held : (f : Option Claim) (d : Upshot (Held Msg)) → (d.ended ≡ None) ⊎ (d.state ≡ w.held) →
        ((by_forged f w.held d).ended ≡ None) ⊎ ((by_forged f w.held d).state ≡ w.held)
    forged-held None d k = k
    forged-held (Some claim) d k = inr refl

    -- an event that the core takes with its disk as it is
    happens-tells : (behind : ℕ → Disk) (o : Stepped Msg) → its_step ≡ o → Reveals (free_step s w.held c o) →
        ((free_step s w.held c o).ended ≡ None) ⊎ ((free_step s w.held c o).state ≡ w.held) → Tells (with_disks w behind (at_step its_step))
    happens-tells behind o q more held =
        subst (λ (x : Stepped Msg). Tells (with_disks w behind (at_step x))) (sym q)
        (by-happening behind (at_step o) (forged-held (first_forged s R w.held.signed (claims ++ early_of o)) (free_step s w.held c o) held)
        (forged-tells o q (first_forged s R w.held.signed (claims ++ early_of o)) refl more))

    stops-tells : (f : Option Claim) → first_forged s R w.held.signed claims ≡ f → Tells (stops f w c)
    stops-tells None q = still-tells (stops None w c) refl
    stops-tells (Some claim) q = λ end k.
        subst (λ (x : End). IsEvidenced s F R M w e x) (some-injective (Forged claim) end k) (forgery-read claim q)

    kept-tells : (t : Turn Msg) → its_step ≡ Taken t → (b : Bool) → may_keep (w.disks c).passes ≡ b → (f : Option Claim) → first_forged s R w.held.signed claims ≡ f →
        Tells (cond b (with_disks w (set_at w.disks c (keeps (w.disks c) event)) (at_step its_step)) (stops f w c))
    kept-tells t q true room f z =
        happens-tells (set_at w.disks c (keeps (w.disks c) event)) (Taken t) q
        (collided-tells t q room (collision_in t.strings w.held.hashed) refl) (collided-held t (collision_in t.strings w.held.hashed))
    kept-tells t q false room f z = stops-tells f z

    step-tells : (o : Stepped Msg) → its_step ≡ o → Tells (by_step s F R M w c event o)
    step-tells (Dropped why) q = happens-tells w.disks (Dropped why) q (λ end k. absurd (cc)) (inl refl)
    step-tells (Taken t) q =
        kept-tells t q (may_keep (w.disks c).passes) refl (first_forged s R w.held.signed claims) refl

  at-tells : (w : Machines Msg) (c : ℕ) (event : NodeEvent) → Gives s F w.held.net.network.packets e c event → Tells (at_machine s F R M w c event)
  at-tells w c event given = go (w.disks c).failed refl
    where
      its : Stepped Msg
      its = step F R M (node_of s c) (w.held.net.cores c) event

      go : (b : Bool) → (w.disks c).failed ≡ b → Tells (cond b (lost_by w Stopped) (by_step s F R M w c event its))
      go true q = still-tells (lost_by w Stopped) refl
      go false q = step-tells w c event given q its refl

  -- ---- packets

  -- what gives a packet
  module _ (gives : (packets : List Sent) (c : ℕ) (event : NodeEvent) (k : ℕ) → IsPacketFor packets c event k → Gives s F packets e c event) where
    delivered-tells : (w : Machines Msg) (k : ℕ) (o : Option Sent) → nth w.held.net.network.packets k ≡ o → Tells (delivered_to (with_crashes s F R M) w k o)
    delivered-tells w k None q = still-tells (delivered_to (with_crashes s F R M) w k None) refl
    delivered-tells w k (Some p) q =
        let v = with_packets w (settled w.held.net.network k) in
        at-tells v p.to (On_packet p.bytes)
        (gives w.held.net.network.packets p.to (On_packet p.bytes) k (record { packet = p; sent = q; core = refl; bytes = refl }))

    unless-tells : (d : Upshot (Machines Msg)) (more : Machines Msg → Upshot (Machines Msg)) → Tells d → ((v : Machines Msg) → Tells (more v)) → (o : Option End) →
        Tells (unless o d more)
    unless-tells d more a b None = b d.state
    unless-tells d more a b (Some end) = a

    each-tells : (ks : List ℕ) (w : Machines Msg) → Tells (delivers_each (with_crashes s F R M) ks w)
    each-tells [] w = still-tells (done w) refl
    each-tells (k ∷ ks) w =
        let d = delivers (with_crashes s F R M) w k in
        unless-tells d (delivers_each (with_crashes s F R M) ks) (delivered-tells w k (nth w.held.net.network.packets k) refl) (λ v. each-tells ks v) d.ended

    calms-tells : (m : ℕ) (w : Machines Msg) → Tells (calms (with_crashes s F R M) m w)
    calms-tells zero w = still-tells (done w) refl
    calms-tells (suc m) w =
        let d = pumps (with_crashes s F R M) w in
        unless-tells d (calms (with_crashes s F R M) m) (each-tells (due w.held.net.network) w) (λ v. calms-tells m v) d.ended

-- ---- events

module _ {Msg : Type 0} (s : Setup) (F : Formats Msg) (R : Rules) (M : Module Msg) (sound : IsSoundRules s M R) where
  abbrev TellsAt : Event → Upshot (Machines Msg) → Type 0
  TellsAt e d = (end : End) → d.ended ≡ Some end → IsEvidenced s F R M d.state e end

  quiet-tells : (e : Event) (d : Upshot (Machines Msg)) → d.ended ≡ None → TellsAt e d
  quiet-tells e d q = still-tells s F R M sound e d q

  loses-tells : (w : Machines Msg) (k : ℕ) (o : Option Sent) → TellsAt (Lose k) (loses (with_crashes s F R M) w k o)
  loses-tells w k None = quiet-tells (Lose k) (loses (with_crashes s F R M) w k None) refl
  loses-tells w k (Some p) = quiet-tells (Lose k) (loses (with_crashes s F R M) w k (Some p)) refl

  injects-tells : (w : Machines Msg) (c : ℕ) (bytes : List ℕ) (b : Bool) →
      TellsAt (Bytes c bytes) (cond b (done w) (at_machine s F R M w c (On_packet bytes)))
  injects-tells w c bytes true = quiet-tells (Bytes c bytes) (done w) refl
  injects-tells w c bytes false = at-tells s F R M sound (Bytes c bytes) w c (On_packet bytes) (refl, refl)

  event-tells : (w : Machines Msg) (e : Event) → TellsAt e (apply_event (with_crashes s F R M) w e)
  event-tells w (Event_request c client number payload) =
      at-tells s F R M sound (Event_request c client number payload) w c
      (On_packet (F.wrap (record { from = 255; epoch = 0; body = OfRequest (request_of s client number payload) }))) (refl, refl)
  event-tells w (Propose c) = at-tells s F R M sound (Propose c) w c On_propose (refl, refl)
  event-tells w (Event_timeout c l) = at-tells s F R M sound (Event_timeout c l) w c (On_timeout l) (refl, refl)
  event-tells w (Ask c peer) = at-tells s F R M sound (Ask c peer) w c (On_ask peer) (refl, refl)
  event-tells w (Deliver k) = delivered-at (nth w.held.net.network.packets k) refl
    where
      delivered-at : (o : Option Sent) → nth w.held.net.network.packets k ≡ o → TellsAt (Deliver k) (delivered_to (with_crashes s F R M) w k o)
      delivered-at None q = quiet-tells (Deliver k) (delivered_to (with_crashes s F R M) w k None) refl
      delivered-at (Some p) q =
          at-tells s F R M sound (Deliver k) (with_packets w (settled w.held.net.network k)) p.to (On_packet p.bytes)
          (record { packet = p; sent = q; core = refl; bytes = refl })
  event-tells w (Lose k) = loses-tells w k (nth w.held.net.network.packets k)
  event-tells w Pump = each-tells s F R M sound Pump (λ packets c event k p. (k, p)) (due w.held.net.network) w
  event-tells w (Calm m) = calms-tells s F R M sound (Calm m) (λ packets c event k p. (k, p)) m w
  event-tells w (Hold c) = quiet-tells (Hold c) (apply_event (with_crashes s F R M) w (Hold c)) refl
  event-tells w (Free c) = quiet-tells (Free c) (apply_event (with_crashes s F R M) w (Free c)) refl
  event-tells w (Event_drop c) = quiet-tells (Event_drop c) (apply_event (with_crashes s F R M) w (Event_drop c)) refl
  event-tells w (Restart c) = quiet-tells (Restart c) (apply_event (with_crashes s F R M) w (Restart c)) refl
  event-tells w (Crash c calls) = quiet-tells (Crash c calls) (apply_event (with_crashes s F R M) w (Crash c calls)) refl
  event-tells w (Bytes c bytes) = injects-tells w c bytes M.stopping

  -- ---- a run

  -- the event that stopped a run that went on, and its number from here on
  record IsAt (p : Course Msg) (es : List Event) (w : Machines Msg) (k : ℕ) (end : End) : Type 0 where
    event : Event
    behind : ℕ
    number : k ≡ p.event + behind
    is : nth es behind ≡ Some event
    evidence : IsEvidenced s F R M w event end

  course-tells : (es : List Event) (p : Course Msg) → p.ended ≡ None → (k : ℕ) (end : End) → (run (with_crashes s F R M) p es).ended ≡ Some (k, end) →
      IsAt p es (run (with_crashes s F R M) p es).state k end
  course-tells [] p on k end q = absurd (cc)
  course-tells (e ∷ es) p on k end q = go (λ z. course-tells es next z k end later) d.ended refl
    where
      d : Upshot (Machines Msg)
      d = apply_event (with_crashes s F R M) p.state e

      next : Course Msg
      next = run_event (with_crashes s F R M) p e

      whole : run (with_crashes s F R M) p (e ∷ es) ≡ run (with_crashes s F R M) next es
      whole = ap (λ (z : Course Msg). run (with_crashes s F R M) z es) (further-on s F R M p e on)

      later : (run (with_crashes s F R M) next es).ended ≡ Some (k, end)
      later = ap (λ (z : Course Msg). z.ended) (sym whole) ∙ q

      go : (next.ended ≡ None → IsAt next es (run (with_crashes s F R M) next es).state k end) → (o : Option End) → d.ended ≡ o →
          IsAt p (e ∷ es) (run (with_crashes s F R M) p (e ∷ es)).state k end
      go more None z =
          let r = more (ap (λ (o : Option End). ended_at p.event o) z) in
          let number : k ≡ suc p.event + r.behind = r.number in
          record {
            event = r.event;
            behind = suc r.behind;
            number = omega (arith, number);
            is = r.is;
            evidence = subst (λ (c : Course Msg). IsEvidenced s F R M c.state r.event end) (sym whole) r.evidence;
          }
      go more (Some other) z =
          let stopped : next.ended ≡ Some (p.event, other) = ap (λ (o : Option End). ended_at p.event o) z in
          let rests : run (with_crashes s F R M) next es ≡ next = course-stays s F R M es next (p.event, other) stopped in
          let same : (p.event, other) ≡ (k, end) =
          some-injective (p.event, other) (k, end) (sym stopped ∙ ap (λ (c : Course Msg). c.ended) (sym rests) ∙ later) in
          let number : p.event ≡ k = ap (λ (x : ℕ × End). x.0) same in
          let is : d.ended ≡ Some end = z ∙ ap (λ (x : ℕ × End). Some x.1) same in
          record {
            event = e;
            behind = 0;
            number = omega (arith, number);
            is = refl;
            evidence = subst (λ (c : Course Msg). IsEvidenced s F R M c.state e end) (sym (whole ∙ rests)) (event-tells p.state e end is);
          }

pub has-evidence : {Msg : Type 0} (s : Setup) (M : Module Msg) → IsSetupOf M s → (events : List Event) → HasEvidence s M events
has-evidence s M h events = record {
  shown = λ k end q.
      let r = course-tells s (formats_of s M) (rules_of s) M (sound-rules M s h) events (begin_course s) refl k end q in
      let number : k ≡ 0 + r.behind = r.number in
      let same : r.behind ≡ k = omega (arith, number) in
      record { event = r.event; is = ap (λ (n : ℕ). nth events n) (sym same) ∙ r.is; evidence = r.evidence };
  stays = λ k end q more. after-stays s M events more (k, end) q;
}
