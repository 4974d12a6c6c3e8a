-- A run with disk failures is simulated by a failure-free one, event by event: journaled events enter it, and others
-- are left out.
use Rattle.std.proofs.Common.{◌≡◌, ◌⊎◌, inl, inr, ℕ, zero, suc, Bool, true, false, cond, List, [], ◌∷◌, ◌++◌, Option, Some, None, refl, sym, ap, ◌∙◌, subst}
use Rattle.std.proofs.Math.Path.{fun_ext}
use Rattle.iss_base.specs.Lists.{In, nth, set_at}
use Rattle.iss_base.proofs.Lists.{same_or_not, set_at-other, set_at-same}
use Rattle.iss_network.specs.Network.{Network, cleared, due, held_to, settled}
use Rattle.iss_network.specs.declared.packets.Sent.{Sent}
use Rattle.iss_request.specs.declared.ids.ReqId.{ReqId}
use Rattle.iss_request.specs.declared.setups.Setup.{Setup}
use Rattle.iss_schedule.specs.declared.schedules.Event.{Event}
use Rattle.iss_schedule.specs.declared.schedules.Event.TheVariants.{Request as Event_request, Propose, Timeout as Event_timeout, Ask, Deliver, Lose, Pump, Calm, Hold, Free, Drop as Event_drop, Restart, Crash, Bytes}
use Rattle.iss_sb.specs.declared.effects.Claim.{Claim}
use Rattle.iss_sb.specs.Evidence.{Module}
use Rattle.iss_rules.specs.Books.{Signed}
use Rattle.iss_theorems.specs.Conserved.{asked_by, unless_ended, asked_in, WasAsked}
use Rattle.iss_rules.specs.declared.events.NodeEvent.{NodeEvent}
use Rattle.iss_rules.specs.declared.events.NodeEvent.TheVariants.{Packet as On_packet, Propose as On_propose, Timeout as On_timeout, AskFrom as On_ask}
use Rattle.iss_rules.specs.declared.events.Why.{Why}
use Rattle.iss_rules.specs.declared.events.Why.TheVariants.{NoPacket, Stopped}
use Rattle.iss_model.specs.Node.{Core, Dropped, Stepped, Taken, Turn, step}
use Rattle.iss_rules.specs.Parcels.{Formats, OfRequest}
use Rattle.iss_rules.specs.Rules.{Rules}
use Rattle.iss_rules.specs.Ends.{End, Forged}
use Rattle.iss_model.specs.Run.{Held, at_core, by_collision, by_forged, claims_at, collision_in, early_of, first_forged, is_forged, node_of, turned_to, with_network, after_step as free_step, failure_free}
use Rattle.iss_rules.specs.Concrete.{request_of}
use Rattle.iss_model.specs.Runs.{AreAtCores, IsAtCore}
use Rattle.iss_theorems.proofs.CrashRecovery.RunsInSequence.{Leads, course-over, going, leads-less, leads-none, leads-on, leads-one, leads-same, nobody, nobody-asked, over, standing}
use Rattle.iss_model.specs.Courses.{Course, Machines, after_step, at_machine, begin_machines, by_step, core_of, recover, stops, with_disk, with_disks, with_packets, with_crashes}
use Rattle.iss_model.specs.Disks.{Disk, fails, fused, keeps, may_keep, works_again}
use Rattle.iss_model.specs.Driver.{Progress, Upshot, apply_event, calms, delivered_to, delivers, delivers_each, done, ended_at, ended_by, loses, lost_by, noted, pumps, run, unless}
use Rattle.iss_theorems.specs.Recovery.{IsUndisturbed, why_ended}

-- each core is the one that its journaled events lead to
abbrev AreOfTheirDisks : {Msg : Type 0} → Setup → Formats Msg → Rules → Module Msg → Machines Msg → Type 0
AreOfTheirDisks s F R M w = (c : ℕ) → w.held.net.cores c ≡ core_of F R M (node_of s c) (w.disks c).kept

-- a forged claim that is the first in a list is the first in a longer one
forged-else : (b : Bool) (c : Claim) (o p : Option Claim) (claim : Claim) → (o ≡ Some claim → p ≡ Some claim) → cond b (Some c) o ≡ Some claim → cond b (Some c) p ≡ Some claim
forged-else true c o p claim more h = h
forged-else false c o p claim more h = more h

pub forged-first : (s : Setup) (R : Rules) (book : List Signed) (cs ds : List Claim) (claim : Claim) → first_forged s R book cs ≡ Some claim →
    first_forged s R book (cs ++ ds) ≡ Some claim
forged-first s R book [] ds claim h = absurd (cc)
forged-first s R book (c ∷ cs) ds claim h =
    forged-else (is_forged s R book c) c (first_forged s R book cs) (first_forged s R book (cs ++ ds)) claim (λ k. forged-first s R book cs ds claim k) h

-- a lost event accepts no request
lost-asks-nothing : (i : ℕ) (e : Event) (why : Why) (x : ReqId) → In x (asked_by i e (Some why)) → ⊥
lost-asks-nothing i (Event_request c client number payload) why x m = m
lost-asks-nothing i (Propose c) why x m = m
lost-asks-nothing i (Event_timeout c l) why x m = m
lost-asks-nothing i (Ask c peer) why x m = m
lost-asks-nothing i (Deliver k) why x m = m
lost-asks-nothing i (Lose k) why x m = m
lost-asks-nothing i Pump why x m = m
lost-asks-nothing i (Calm n) why x m = m
lost-asks-nothing i (Hold c) why x m = m
lost-asks-nothing i (Free c) why x m = m
lost-asks-nothing i (Event_drop c) why x m = m
lost-asks-nothing i (Restart c) why x m = m
lost-asks-nothing i (Crash c calls) why x m = m
lost-asks-nothing i (Bytes c bytes) why x m = m

ends-ask-nothing : (o : Option End) (x : ReqId) → In x (unless_ended o []) → ⊥
ends-ask-nothing None x m = m
ends-ask-nothing (Some end) x m = m

module _ {Msg : Type 0} (s : Setup) (F : Formats Msg) (R : Rules) (M : Module Msg) where
  abbrev Own : Machines Msg → Type 0
  Own w = AreOfTheirDisks s F R M w

  abbrev By : (ℕ → ReqId → Type 0) → Progress (Held Msg) → Held Msg → Option End → Type 0
  By asks q g o = Leads s F R M asks q g o

  abbrev at_start : Held Msg → ℕ → List (ℕ × Why) → Progress (Held Msg)
  at_start h n drops = standing s F R M h n drops

  abbrev none : ℕ → ReqId → Type 0
  none i x = nobody s F R M i x

  -- ---- each core is the replay of its journal

  -- a disk changes, and keeps the same events
  disk-kept : (w : Machines Msg) → Own w → (c : ℕ) (d : Disk) → d.kept ≡ (w.disks c).kept → Own (with_disk w c d)
  disk-kept w own c d q j = elim (same_or_not j c) [
    | inl z ↦ rw (z, set_at-same w.disks c d) (own c ∙ ap (λ (es : List NodeEvent). core_of F R M (node_of s c) es) (sym q))
    | inr ne ↦ rw (set_at-other w.disks c d j ne) (own j)
  ]

  -- a core takes an event, which its disk journals
  turned-kept : (w : Machines Msg) → Own w → (c : ℕ) (event : NodeEvent) (t : Turn Msg) → step F R M (node_of s c) (w.held.net.cores c) event ≡ Taken t →
      Own (record { held = turned_to s w.held c t; disks = set_at w.disks c (keeps (w.disks c) event) })
  turned-kept w own c event t q j =
      let here : t.core ≡ core_of F R M (node_of s c) (event ∷ (w.disks c).kept) =
      sym (ap (λ (d : Core Msg). after_step d (step F R M (node_of s c) d event)) (sym (own c)) ∙ ap (λ (o : Stepped Msg). after_step (w.held.net.cores c) o) q) in
      elim (same_or_not j c) [
        | inl z ↦ rw (z, set_at-same w.held.net.cores c t.core, set_at-same w.disks c (keeps (w.disks c) event)) here
        | inr ne ↦ rw (set_at-other w.held.net.cores c t.core j ne, set_at-other w.disks c (keeps (w.disks c) event) j ne) (own j)
      ]

  -- ---- what an event leads to, from the state before it

  pub record Goes (asks : ℕ → ReqId → Type 0) (h : Held Msg) (d : Upshot (Machines Msg)) : Type 0 where
    pub leads : (n : ℕ) (drops : List (ℕ × Why)) → By asks (at_start h n drops) d.state.held d.ended
    pub own : Own d.state

  goes-less : (asks fewer : ℕ → ReqId → Type 0) (h : Held Msg) (d : Upshot (Machines Msg)) → ((i : ℕ) (x : ReqId) → fewer i x → asks i x) → Goes asks h d → Goes fewer h d
  goes-less asks fewer h d sub g = record {
    leads = λ n drops. leads-less s F R M asks fewer (at_start h n drops) d.state.held d.ended sub (g.leads n drops);
    own = g.own;
  }

  goes-none : (w : Machines Msg) → Own w → (d : Upshot (Machines Msg)) → d.state ≡ w → d.ended ≡ None → Goes none w.held d
  goes-none w own d same going = record {
    leads = λ n drops. subst (λ (o : Option End). By none (at_start w.held n drops) d.state.held o) (sym going)
        (leads-same s F R M w.held d.state.held n drops (ap (λ (v : Machines Msg). v.held) (sym same)));
    own = subst (λ (v : Machines Msg). Own v) (sym same) own;
  }

  -- ---- one core

  -- Core c takes an event. The failure-free run goes from h to the same state by e, or by nothing if the event does not
  -- enter.
  module _ (h : Held Msg) (w : Machines Msg) (own : Own w) (c : ℕ) (event : NodeEvent) (e : Event) (low : IsAtCore s e) (calm : IsUndisturbed e)
      (same : apply_event (failure_free s F R M) h e ≡ at_core s F R M w.held c event)
      (skip : (n : ℕ) (drops : List (ℕ × Why)) → By none (at_start h n drops) w.held None) where
    abbrev asks_of : Upshot (Machines Msg) → ℕ → ReqId → Type 0
    asks_of d i x = In x (asked_in i e d)

    -- the event enters
    carries : (behind : ℕ → Disk) (g : Upshot (Held Msg)) → apply_event (failure_free s F R M) h e ≡ g → Own (with_disks w behind g).state →
        Goes (asks_of (with_disks w behind g)) h (with_disks w behind g)
    carries behind g q k = record { leads = λ n drops. leads-one s F R M e low calm h n drops g q; own = k }

    -- the event does not enter
    skips : (disks : ℕ → Disk) → Own (record { held = w.held; disks = disks }) →
        Goes (asks_of (lost_by (record { held = w.held; disks = disks }) Stopped)) h (lost_by (record { held = w.held; disks = disks }) Stopped)
    skips disks k = record {
      leads = λ n drops. leads-less s F R M none (asks_of (lost_by (record { held = w.held; disks = disks }) Stopped)) (at_start h n drops) w.held None
          (λ i x m. lost-asks-nothing i e Stopped x m) (skip n drops);
      own = k;
    }

    abbrev node : ℕ
    node = node_of s c

    abbrev claims : List Claim
    claims = claims_at F R M node (w.held.net.cores c) event

    -- what happens at the core, by the result of its step
    abbrev at_step : Stepped Msg → Upshot (Held Msg)
    at_step o = by_forged (first_forged s R w.held.signed (claims ++ early_of o)) w.held (free_step s w.held c o)

    abbrev its_step : Stepped Msg
    its_step = step F R M node (w.held.net.cores c) event

    abbrev more : ℕ → Disk
    more = set_at w.disks c (keeps (w.disks c) event)

    dropped-own : (why : Why) (f : Option Claim) → Own (with_disks w w.disks (by_forged f w.held (lost_by w.held why))).state
    dropped-own why None = own
    dropped-own why (Some claim) = own

    taken-own : (t : Turn Msg) → its_step ≡ Taken t → (f : Option Claim) (o : Option End) →
        Own (with_disks w more (by_forged f w.held (by_collision o w.held (turned_to s w.held c t)))).state
    taken-own t q None None = turned-kept w own c event t q
    taken-own t q None (Some end) = own
    taken-own t q (Some claim) o = own

    -- a forged claim in what is received stops the run before the step
    forged-here : (claim : Claim) → first_forged s R w.held.signed claims ≡ Some claim → at_step its_step ≡ ended_by w.held (Forged claim)
    forged-here claim z =
        ap (λ (f : Option Claim). by_forged f w.held (free_step s w.held c its_step)) (forged-first s R w.held.signed claims (early_of its_step) claim z)

    goes-kept : (t : Turn Msg) → its_step ≡ Taken t → (b : Bool) (f : Option Claim) → first_forged s R w.held.signed claims ≡ f →
        Goes (asks_of (cond b (with_disks w more (at_step its_step)) (stops f w c))) h (cond b (with_disks w more (at_step its_step)) (stops f w c))
    goes-kept t q true f z =
        carries more (at_step its_step) same
        (subst (λ (o : Stepped Msg). Own (with_disks w more (at_step o)).state) (sym q)
        (taken-own t q (first_forged s R w.held.signed (claims ++ t.early)) (collision_in t.strings w.held.hashed)))
    goes-kept t q false None z = skips (set_at w.disks c (fails (w.disks c))) (disk-kept w own c (fails (w.disks c)) refl)
    goes-kept t q false (Some claim) z = carries w.disks (ended_by w.held (Forged claim)) (same ∙ forged-here claim z) own

    goes-step : (o : Stepped Msg) → its_step ≡ o → Goes (asks_of (by_step s F R M w c event o)) h (by_step s F R M w c event o)
    goes-step (Dropped why) q =
        carries w.disks (at_step its_step) same
        (subst (λ (o : Stepped Msg). Own (with_disks w w.disks (at_step o)).state) (sym q) (dropped-own why (first_forged s R w.held.signed (claims ++ []))))
    goes-step (Taken t) q = goes-kept t q (may_keep (w.disks c).passes) (first_forged s R w.held.signed claims) refl

    goes-failed : (b : Bool) → Goes (asks_of (cond b (lost_by w Stopped) (by_step s F R M w c event its_step))) h (cond b (lost_by w Stopped) (by_step s F R M w c event its_step))
    goes-failed true = skips w.disks own
    goes-failed false = goes-step its_step refl

    at-goes : Goes (asks_of (at_machine s F R M w c event)) h (at_machine s F R M w c event)
    at-goes = goes-failed (w.disks c).failed

  -- ---- packets

  -- a delivery accepts no request
  unasked : (e : Event) → ((i : ℕ) (o : Option Why) → asked_by i e o ≡ []) → (d : Upshot (Machines Msg)) (i : ℕ) (x : ReqId) → In x (asked_in i e d) → none i x
  unasked e nothing d i x m = ends-ask-nothing d.ended x (subst (λ (xs : List ReqId). In x (unless_ended d.ended xs)) (nothing i d.lost) m)

  goes-network : (w : Machines Msg) → Own w → (net : Network) (e : Event) → IsAtCore s e → IsUndisturbed e → apply_event (failure_free s F R M) w.held e ≡ done (with_network w.held net) →
      Goes none w.held (done (with_packets w net))
  goes-network w own net e low calm same = record {
    leads = λ n drops. leads-less s F R M (λ i x. In x (asked_in i e (done (with_network w.held net)))) none (at_start w.held n drops) (with_network w.held net) None
        (λ i x m. absurd m) (leads-one s F R M e low calm w.held n drops (done (with_network w.held net)) same);
    own = own;
  }

  deliver-goes : (w : Machines Msg) → Own w → (k : ℕ) (o : Option Sent) → nth w.held.net.network.packets k ≡ o → Goes none w.held (delivered_to (with_crashes s F R M) w k o)
  deliver-goes w own k None q = goes-none w own (lost_by w NoPacket) refl refl
  deliver-goes w own k (Some p) q =
      let net : Network = settled w.held.net.network k in
      let v : Machines Msg = with_packets w net in
      let d : Upshot (Machines Msg) = at_machine s F R M v p.to (On_packet p.bytes) in
      let lose = goes-network w own net (Lose k) tt tt (ap (λ (x : Option Sent). loses (failure_free s F R M) w.held k x) q) in
      goes-less (λ i x. In x (asked_in i (Deliver k) d)) none w.held d (λ i x m. absurd m)
      (at-goes w.held v own p.to (On_packet p.bytes) (Deliver k) tt tt (ap (λ (x : Option Sent). delivered_to (failure_free s F R M) w.held k x) q) lose.leads)

  unless-goes : (asks : ℕ → ReqId → Type 0) (h : Held Msg) (d : Upshot (Machines Msg)) (later : Machines Msg → Upshot (Machines Msg)) (o : Option End) → d.ended ≡ o → Goes asks h d →
      ((v : Machines Msg) → Own v → Goes none v.held (later v)) → Goes asks h (unless o d later)
  unless-goes asks h d later None q g f =
      let next = f d.state g.own in
      record {
        leads = λ n drops.
            let a = subst (λ (o : Option End). By asks (at_start h n drops) d.state.held o) q (g.leads n drops) in
            leads-less s F R M (λ i x. asks i x ⊎ none i x) asks (at_start h n drops) (later d.state).state.held (later d.state).ended (λ i x m. inl m)
            (leads-on s F R M asks none (at_start h n drops) d.state.held (later d.state).state.held (later d.state).ended a next.leads);
        own = next.own;
      }
  unless-goes asks h d later (Some end) q g f = g

  each-goes : (ks : List ℕ) (w : Machines Msg) → Own w → Goes none w.held (delivers_each (with_crashes s F R M) ks w)
  each-goes [] w own = goes-none w own (done w) refl refl
  each-goes (k ∷ ks) w own =
      let d = delivers (with_crashes s F R M) w k in
      unless-goes none w.held d (delivers_each (with_crashes s F R M) ks) d.ended refl (deliver-goes w own k (nth w.held.net.network.packets k) refl) (λ v o. each-goes ks v o)

  calms-goes : (m : ℕ) (w : Machines Msg) → Own w → Goes none w.held (calms (with_crashes s F R M) m w)
  calms-goes zero w own = goes-none w own (done w) refl refl
  calms-goes (suc m) w own =
      let d = pumps (with_crashes s F R M) w in
      unless-goes none w.held d (calms (with_crashes s F R M) m) d.ended refl (each-goes (due w.held.net.network) w own) (λ v o. calms-goes m v o)

  lose-goes : (w : Machines Msg) → Own w → (k : ℕ) (o : Option Sent) → nth w.held.net.network.packets k ≡ o → Goes none w.held (loses (with_crashes s F R M) w k o)
  lose-goes w own k None q = goes-none w own (lost_by w NoPacket) refl refl
  lose-goes w own k (Some p) q = goes-network w own (settled w.held.net.network k) (Lose k) tt tt (ap (λ (x : Option Sent). loses (failure_free s F R M) w.held k x) q)

  -- ---- restarts

  -- replaying a core's journal gives the core itself
  remade-same : (w : Machines Msg) → Own w → (c : ℕ) → (recover s F R M w c).held ≡ w.held
  remade-same w own c =
      let with_cores : (ℕ → Core Msg) → Held Msg = λ f. record { net = record { cores = f; network = w.held.net.network }; signed = w.held.signed; hashed = w.held.hashed } in
      ap with_cores (fun_ext (λ j. at j))
    where
      at : (j : ℕ) → set_at w.held.net.cores c (core_of F R M (node_of s c) (w.disks c).kept) j ≡ w.held.net.cores j
      at j = elim (same_or_not j c) [
        | inl z ↦ rw (z, set_at-same w.held.net.cores c (core_of F R M (node_of s c) (w.disks c).kept)) (sym (own c))
        | inr ne ↦ set_at-other w.held.net.cores c (core_of F R M (node_of s c) (w.disks c).kept) j ne
      ]

  restart-goes : (w : Machines Msg) → Own w → (c : ℕ) → Goes none w.held (done (recover s F R M w c))
  restart-goes w own c = record {
    leads = λ n drops. leads-same s F R M w.held (recover s F R M w c).held n drops (sym (remade-same w own c));
    own = subst (λ (g : Held Msg). Own (record { held = g; disks = set_at w.disks c (works_again (w.disks c)) })) (sym (remade-same w own c))
        (disk-kept w own c (works_again (w.disks c)) refl);
  }

  crash-goes : (w : Machines Msg) → Own w → (c calls : ℕ) → Goes none w.held (done (with_disk w c (fused (w.disks c) calls)))
  crash-goes w own c calls = record {
    leads = λ n drops. leads-none s F R M w.held n drops;
    own = disk-kept w own c (fused (w.disks c) calls) refl;
  }

  -- ---- events

  inject-goes : (w : Machines Msg) → Own w → (c : ℕ) (bytes : List ℕ) (b : Bool) → M.stopping ≡ b →
      Goes none w.held (cond b (done w) (at_machine s F R M w c (On_packet bytes)))
  inject-goes w own c bytes true q = goes-none w own (done w) refl refl
  inject-goes w own c bytes false q =
      let d = at_machine s F R M w c (On_packet bytes) in
      goes-less (λ i x. In x (asked_in i (Bytes c bytes) d)) none w.held d (λ i x m. absurd m)
      (at-goes w.held w own c (On_packet bytes) (Bytes c bytes) tt tt
      (ap (λ (b : Bool). cond b (done w.held) (at_core s F R M w.held c (On_packet bytes))) q) (λ n drops. leads-none s F R M w.held n drops))

  quiet : {h : Held Msg} {d : Upshot (Machines Msg)} (e : Event) → ((i : ℕ) (o : Option Why) → asked_by i e o ≡ []) → Goes none h d → Goes (λ i x. In x (asked_in i e d)) h d
  quiet {h} {d} e nothing g = goes-less none (λ i x. In x (asked_in i e d)) h d (λ i x m. unasked e nothing d i x m) g

  pub happens-goes : (w : Machines Msg) → Own w → (e : Event) → IsAtCore s e → Goes (λ i x. In x (asked_in i e (apply_event (with_crashes s F R M) w e))) w.held (apply_event (with_crashes s F R M) w e)
  happens-goes w own (Event_request c client number payload) low =
      at-goes w.held w own c (On_packet (F.wrap (record { from = 255; epoch = 0; body = OfRequest (request_of s client number payload) })))
      (Event_request c client number payload) low tt refl (λ n drops. leads-none s F R M w.held n drops)
  happens-goes w own (Propose c) low = at-goes w.held w own c On_propose (Propose c) low tt refl (λ n drops. leads-none s F R M w.held n drops)
  happens-goes w own (Event_timeout c l) low = at-goes w.held w own c (On_timeout l) (Event_timeout c l) low tt refl (λ n drops. leads-none s F R M w.held n drops)
  happens-goes w own (Ask c peer) low = at-goes w.held w own c (On_ask peer) (Ask c peer) low tt refl (λ n drops. leads-none s F R M w.held n drops)
  happens-goes w own (Deliver k) low = quiet (Deliver k) (λ i o. refl) (deliver-goes w own k (nth w.held.net.network.packets k) refl)
  happens-goes w own (Lose k) low = quiet (Lose k) (λ i o. refl) (lose-goes w own k (nth w.held.net.network.packets k) refl)
  happens-goes w own Pump low = quiet Pump (λ i o. refl) (each-goes (due w.held.net.network) w own)
  happens-goes w own (Calm m) low = quiet (Calm m) (λ i o. refl) (calms-goes m w own)
  happens-goes w own (Hold c) low = quiet (Hold c) (λ i o. refl) (goes-network w own (held_to w.held.net.network c true) (Hold c) tt tt refl)
  happens-goes w own (Free c) low = quiet (Free c) (λ i o. refl) (goes-network w own (held_to w.held.net.network c false) (Free c) tt tt refl)
  happens-goes w own (Event_drop c) low = quiet (Event_drop c) (λ i o. refl) (goes-network w own (cleared w.held.net.network c) (Event_drop c) tt tt refl)
  happens-goes w own (Restart c) low = quiet (Restart c) (λ i o. refl) (restart-goes w own c)
  happens-goes w own (Crash c calls) low = quiet (Crash c calls) (λ i o. refl) (crash-goes w own c calls)
  happens-goes w own (Bytes c bytes) low = quiet (Bytes c bytes) (λ i o. refl) (inject-goes w own c bytes M.stopping refl)

  -- ---- runs with disk failures

  pub record Follows (asks : ℕ → ReqId → Type 0) (h : Held Msg) (p : Course Msg) : Type 0 where
    pub leads : (n : ℕ) (drops : List (ℕ × Why)) → By asks (at_start h n drops) p.state.held (why_ended p.ended)
    pub own : Own p.state

  -- an event, and the events after it
  behind-follows : (es : List Event) (w : Machines Msg) (d : Upshot (Machines Msg)) (asks : ℕ → ReqId → Type 0) (k : ℕ) (lost : List (ℕ × Why)) (o : Option End) → d.ended ≡ o →
      Goes asks w.held d → Follows (WasAsked (with_crashes s F R M) (going s F R M d.state (suc k) lost) es) d.state.held (run (with_crashes s F R M) (going s F R M d.state (suc k) lost) es) →
      Follows (λ i x. asks i x ⊎ WasAsked (with_crashes s F R M) (record { state = d.state; event = suc k; drops = lost; ended = ended_at k o }) es i x) w.held
      (run (with_crashes s F R M) (record { state = d.state; event = suc k; drops = lost; ended = ended_at k o }) es)
  behind-follows es w d asks k lost None q g rest =
      let p : Course Msg = going s F R M d.state (suc k) lost in
      let later : Course Msg = run (with_crashes s F R M) p es in
      record {
        leads = λ n drops.
            leads-on s F R M asks (WasAsked (with_crashes s F R M) p es) (at_start w.held n drops) d.state.held later.state.held (why_ended later.ended)
            (subst (λ (o : Option End). By asks (at_start w.held n drops) d.state.held o) q (g.leads n drops)) rest.leads;
        own = rest.own;
      }
  behind-follows es w d asks k lost (Some end) q g rest =
      let p : Course Msg = over s F R M d.state (suc k) lost (k, end) in
      let all : ℕ → ReqId → Type 0 = λ i x. asks i x ⊎ WasAsked (with_crashes s F R M) p es i x in
      let same : p ≡ run (with_crashes s F R M) p es = sym (course-over s F R M es d.state (suc k) lost (k, end)) in
      record {
        leads = λ n drops.
            subst (λ (c : Course Msg). By all (at_start w.held n drops) c.state.held (why_ended c.ended)) same
            (leads-less s F R M asks all (at_start w.held n drops) d.state.held (Some end)
            (λ i x m. elim m [ inl a ↦ a | inr b ↦ absurd (nobody-asked s F R M es d.state (suc k) lost (k, end) i x b) ])
            (subst (λ (o : Option End). By asks (at_start w.held n drops) d.state.held o) q (g.leads n drops)));
        own = subst (λ (c : Course Msg). Own c.state) same g.own;
      }

  pub follows : (es : List Event) (w : Machines Msg) (k : ℕ) (lost : List (ℕ × Why)) → Own w → AreAtCores s es →
      Follows (WasAsked (with_crashes s F R M) (going s F R M w k lost) es) w.held (run (with_crashes s F R M) (going s F R M w k lost) es)
  follows [] w k lost own low = record { leads = λ n drops. leads-none s F R M w.held n drops; own = own }
  follows (e ∷ es) w k lost own low =
      let d : Upshot (Machines Msg) = apply_event (with_crashes s F R M) w e in
      let g = happens-goes w own e low.0 in
      behind-follows es w d (λ i x. In x (asked_in i e d)) k (noted k d.lost lost) d.ended refl g (follows es d.state (suc k) (noted k d.lost lost) g.own low.1)

  pub begin-own : Own (begin_machines s)
  begin-own c = refl
