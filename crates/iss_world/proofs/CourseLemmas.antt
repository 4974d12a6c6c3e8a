-- Deliveries in sequence up to one that stops the run, and events that affect only the network.
use Rattle.std.specs.Prelude.{option_map}
use Rattle.std.proofs.Common.{◌≡◌, ℕ, zero, suc, ◌+◌, ◌-◌, ◌<◌, ◌≤◌, Bool, true, false, cond, List, [], ◌∷◌, ◌++◌, length, take, drop, get_or, Option, Some, None, Result, IfOk, refl, sym, ap, ◌∙◌, subst, arith}
use Rattle.iss_base.proofs.Lists.{none-some}
use Rattle.iss_base.specs.Lists.{nth}
use Rattle.iss_rules.specs.Concrete.{request_of, rules_of}
use Rattle.iss_rules.specs.Formats.{formats_of}
use Rattle.iss_rules.specs.Parcels.{Formats, OfRequest}
use Rattle.iss_rules.specs.Rules.{Rules}
use Rattle.iss_rules.specs.Ends.{End}
use Rattle.iss_rules.specs.declared.events.NodeEvent.TheVariants.{Packet as On_packet}
use Rattle.iss_network.specs.Network.{Network, due, settled}
use Rattle.iss_network.specs.declared.packets.Sent.{Sent}
use Rattle.iss_request.specs.declared.errors.NoMemory.{NoMemory}
use Rattle.iss_request.specs.declared.setups.Kind.TheVariants.{Byzantine}
use Rattle.iss_request.specs.declared.setups.Setup.{Setup}
use Rattle.iss_model.specs.Courses.{Machines, at_machine, driver_of, with_crashes, with_packets}
use Rattle.iss_model.specs.Driver.{Driver, Upshot, apply_event, calms, delivered_to, delivers, delivers_each, done, injects, loses, pumps, unless}
use Rattle.iss_schedule.specs.declared.schedules.Event.{Event}
use Rattle.iss_schedule.specs.declared.schedules.Event.TheVariants.{Request as Event_request}
use Rattle.iss_sb.specs.Calls.{Relation, kind_of}
use Rattle.iss_sb.specs.Evidence.{Module}
use Rattle.iss_theorems.proofs.StoppedRuns.ReadersOfDeliveries.{reader-append, reader-plus}
use Rattle.iss_theorems.specs.Readers.{addressee, reader_at, reader_of, reader_of_calm, reader_of_each, reader_of_pump}
use Rattle.iss_world.proofs.PostLemmas.{take-next}
use Rattle.iss_world.specs.Refines.{HasChanged, RefinesMachines, end_of}
use Rattle.iss_world.specs.State.{SimulationState}
use Rattle.iss_world.specs.declared.ends.EventOutcome.{EventOutcome}
use Rattle.iss_world.specs.declared.ends.EventOutcome.TheVariants.{Done, Lost, Ended}
use Rattle.iss_world.specs.declared.ends.Evidence.{Evidence}

-- If bytes may be injected, the module tolerates Byzantine nodes, not only crashes.
pub not-stopping : (b : Bool) → Byzantine ≡ kind_of b → b ≡ false
not-stopping false e = refl
not-stopping true e = absurd cc

pub take-past : {A : Type 0} (xs : List A) (n : ℕ) → length xs ≤ n → take n xs ≡ xs
take-past [] zero h = refl
take-past [] (suc n) h = refl
take-past (x ∷ xs) zero h = absurd (omega (arith, h))
take-past (x ∷ xs) (suc n) h = ap (λ ys. x ∷ ys) (take-past xs n (omega (arith, h)))

parted : {A : Type 0} (xs : List A) (i : ℕ) (d : A) → i < length xs → xs ≡ take i xs ++ get_or xs i d ∷ drop (suc i) xs
parted [] i d lt = absurd (omega (arith, lt))
parted (x ∷ xs) zero d lt = refl
parted (x ∷ xs) (suc i) d lt = ap (λ ys. x ∷ ys) (parted xs i d (omega (arith, lt)))

pub no-packets : (xs : List ℕ) → length xs ≡ 0 → xs ≡ []
no-packets [] e = refl
no-packets (x ∷ xs) e = absurd (omega (arith, e))

unless-append : {S : Type 0} (o : Option End) (d : Upshot S) → d.ended ≡ o → (f g more : S → Upshot S) →
    ((x : S) → f x ≡ unless (g x).ended (g x) more) → unless o d f ≡ unless (unless o d g).ended (unless o d g) more
unless-append None d e f g more h = h d.state
unless-append (Some x) d e f g more h = sym (ap (λ (o : Option End). unless o d more) e)

unless-none : {S : Type 0} (d : Upshot S) (more : S → Upshot S) → d.ended ≡ None → unless d.ended d more ≡ more d.state
unless-none d more e = ap (λ (o : Option End). unless o d more) e

unless-some : {S : Type 0} (d : Upshot S) (more : S → Upshot S) (x : End) → d.ended ≡ Some x → unless d.ended d more ≡ d
unless-some d more x e = ap (λ (o : Option End). unless o d more) e

module _ {S : Type 0} (D : Driver S) where
  each-append : (xs ys : List ℕ) (w : S) → delivers_each D (xs ++ ys) w ≡ unless (delivers_each D xs w).ended (delivers_each D xs w) (delivers_each D ys)
  each-append [] ys w = refl
  each-append (x ∷ xs) ys w =
      unless-append (delivers D w x).ended (delivers D w x) refl (delivers_each D (xs ++ ys)) (delivers_each D xs) (delivers_each D ys)
      (λ k. each-append xs ys k)

  unless-goes : (o : Option End) (d : Upshot S) (more : S → Upshot S) → d.ended ≡ o → ((x : S) → (more x).ended ≡ None → (more x).lost ≡ None) →
      (unless o d more).ended ≡ None → (unless o d more).lost ≡ None
  unless-goes None d more is goes e = goes d.state e
  unless-goes (Some end) d more is goes e = absurd (none-some end (sym e ∙ is))

  -- If no delivery stops the run, all of them together are not lost.
  each-goes : (xs : List ℕ) (w : S) → (delivers_each D xs w).ended ≡ None → (delivers_each D xs w).lost ≡ None
  each-goes [] w e = refl
  each-goes (x ∷ xs) w e = unless-goes (delivers D w x).ended (delivers D w x) (delivers_each D xs) refl (λ k. each-goes xs k) e

  calms-plus : (i k : ℕ) (w : S) → calms D (i + k) w ≡ unless (calms D i w).ended (calms D i w) (calms D k)
  calms-plus zero k w = let e : zero + k ≡ k = omega arith in ap (λ (n : ℕ). calms D n w) e
  calms-plus (suc i) k w =
      let e : suc i + k ≡ suc (i + k) = omega arith in
      ap (λ (n : ℕ). calms D n w) e
      ∙ unless-append (pumps D w).ended (pumps D w) refl (calms D (i + k)) (calms D i) (calms D k) (λ u. calms-plus i k u)

  -- A pump that finds nothing in flight changes nothing.
  calms-quiet : (k : ℕ) (u : S) → pumps D u ≡ done u → calms D k u ≡ done u
  calms-quiet zero u e = refl
  calms-quiet (suc k) u e = ap (λ (d : Upshot S). unless d.ended d (calms D k)) e ∙ calms-quiet k u e

module _ {M Msg : Type 0} (m : Module Msg) (refines : Relation M Msg) where
  -- ---- the network alone

  pub netted : (v : SimulationState M Msg) (w : Machines Msg) (net net' : Network) → RefinesMachines m refines v w → net ≡ net' →
      HasChanged m refines None (record { setup = v.setup; nodes = v.nodes; network = net; signed = v.signed; hashed = v.hashed }) (done (with_packets w net')) Done
  netted v w net net' st e = (record { cores = st.cores; network = e; signed = st.signed; hashed = st.hashed }, refl, refl)

  pub renetworked : (v : SimulationState M Msg) (w : Machines Msg) (net net' : Network) → RefinesMachines m refines v w → net ≡ net' →
      RefinesMachines m refines (record { setup = v.setup; nodes = v.nodes; network = net; signed = v.signed; hashed = v.hashed }) (with_packets w net')
  renetworked v w net net' st e = record { cores = st.cores; network = e; signed = st.signed; hashed = st.hashed }

  pub lost-settled : (v : SimulationState M Msg) (w : Machines Msg) (net : Network) (k : ℕ) (p : Sent) → RefinesMachines m refines v w → nth v.network.packets k ≡ Some p → net ≡ settled v.network k →
      HasChanged m refines None (record { setup = v.setup; nodes = v.nodes; network = net; signed = v.signed; hashed = v.hashed }) (loses (driver_of v.setup m) w k (nth w.held.net.network.packets k)) Done
  lost-settled v w net k p st e is =
      let found : nth w.held.net.network.packets k ≡ Some p = ap (λ (u : Network). nth u.packets k) (sym st.network) ∙ e in
      subst (λ (o : Option Sent). HasChanged m refines None (record { setup = v.setup; nodes = v.nodes; network = net; signed = v.signed; hashed = v.hashed }) (loses (driver_of v.setup m) w k o) Done) (sym found)
      (netted v w net (settled w.held.net.network k) st (is ∙ ap (λ (u : Network). settled u k) st.network))

  -- ---- one delivery

  module _ (s : Setup) (F : Formats Msg) (R : Rules) (v later : SimulationState M Msg) (w : Machines Msg) (r : EventOutcome) (st : RefinesMachines m refines v w) where
    pub happened-delivered : (k : ℕ) (p : Sent) (bytes : List ℕ) → nth v.network.packets k ≡ Some p → bytes ≡ p.bytes →
        HasChanged m refines (Some p.to) later (at_machine s F R m (with_packets w (settled w.held.net.network k)) p.to (On_packet bytes)) r → HasChanged m refines (addressee w k) later (delivers (with_crashes s F R m) w k) r
    happened-delivered k p bytes e same d =
        let found : nth w.held.net.network.packets k ≡ Some p = ap (λ (u : Network). nth u.packets k) (sym st.network) ∙ e in
        let taken : HasChanged m refines (Some p.to) later (at_machine s F R m (with_packets w (settled w.held.net.network k)) p.to (On_packet p.bytes)) r =
        subst (λ (b : List ℕ). HasChanged m refines (Some p.to) later (at_machine s F R m (with_packets w (settled w.held.net.network k)) p.to (On_packet b)) r) same d in
        subst (λ (o : Option Sent). HasChanged m refines (option_map (λ (q : Sent). q.to) o) later (delivered_to (with_crashes s F R m) w k o) r) (sym found) taken

    pub happened-injected : (i : ℕ) (bytes packet : List ℕ) → m.stopping ≡ false → packet ≡ bytes → HasChanged m refines (Some i) later (at_machine s F R m w i (On_packet packet)) r →
        HasChanged m refines (Some i) later (injects (with_crashes s F R m) w i bytes) r
    happened-injected i bytes packet e same d =
        subst (λ (b : Bool). HasChanged m refines (Some i) later (cond b (done w) (at_machine s F R m w i (On_packet bytes))) r) (sym e)
        (subst (λ (b : List ℕ). HasChanged m refines (Some i) later (at_machine s F R m w i (On_packet b)) r) same d)

    -- A client's request, if the set-up is known to equal another one.
    pub happened-asked : (t : Setup) (i client number : ℕ) (payload packet : List ℕ) → t ≡ s →
        packet ≡ (formats_of t m).wrap (record { from = 255; epoch = 0; body = OfRequest (request_of t client number payload) }) →
        HasChanged m refines (Some i) later (at_machine s (formats_of s m) (rules_of s) m w i (On_packet packet)) r →
        HasChanged m refines (Some i) later (apply_event (driver_of s m) w (Event_request i client number payload)) r
    happened-asked t i client number payload packet same is d =
        let made : Setup → List ℕ = λ z. (formats_of z m).wrap (record { from = 255; epoch = 0; body = OfRequest (request_of z client number payload) }) in
        let there : packet ≡ made s = is ∙ ap made same in
        subst (λ (b : List ℕ). HasChanged m refines (Some i) later (at_machine s (formats_of s m) (rules_of s) m w i (On_packet b)) r) there d

  -- ---- many deliveries

  still-runs : (reader : Option ℕ) (v : SimulationState M Msg) (d : Upshot (Machines Msg)) (r : EventOutcome) → HasChanged m refines reader v d r → ((end : Evidence) → r ≡ Ended end → ⊥) → RefinesMachines m refines v d.state × (d.ended ≡ None)
  still-runs reader v d Done h no' = (h.0, h.2)
  still-runs reader v d (Lost why) h no' = (h.0, h.2)
  still-runs reader v d (Ended end) h no' = absurd (no' end refl)

  module _ (s t : Setup) (later : SimulationState M Msg) (w : Machines Msg) (same : t ≡ s) where
    there-delivered : (u : Machines Msg) (k : ℕ) (r : EventOutcome) → HasChanged m refines (addressee u k) later (delivers (driver_of t m) u k) r →
        HasChanged m refines (addressee u k) later (delivers (driver_of s m) u k) r
    there-delivered u k r d = subst (λ (z : Setup). HasChanged m refines (addressee u k) later (delivers (driver_of z m) u k) r) same d

    -- One more packet is delivered.
    pub each-next : (packets : List ℕ) (i k : ℕ) (r : EventOutcome) → i < length packets → k ≡ get_or packets i k → (delivers_each (driver_of s m) (take i packets) w).ended ≡ None →
        HasChanged m refines (addressee (delivers_each (driver_of s m) (take i packets) w).state k) later
        (delivers (driver_of t m) (delivers_each (driver_of s m) (take i packets) w).state k) r → ((end : Evidence) → r ≡ Ended end → ⊥) →
        HasChanged m refines None later (delivers_each (driver_of s m) (take (i + 1) packets) w) Done
    each-next packets i k r lt is open' d no' =
        let D = driver_of s m in
        let now = delivers_each D (take i packets) w in
        let one = delivers D now.state k in
        let on = still-runs (addressee now.state k) later one r (there-delivered now.state k r d) no' in
        let all : delivers_each D (take (i + 1) packets) w ≡ done one.state =
        ap (λ (ks : List ℕ). delivers_each D ks w) (take-next packets i k lt is) ∙ each-append D (take i packets) (k ∷ []) w
        ∙ unless-none now (delivers_each D (k ∷ [])) open' ∙ unless-none one (λ z. done z) on.1 in
        subst (λ (e : Upshot (Machines Msg)). HasChanged m refines None later e Done) (sym all) (on.0, refl, refl)

    -- Delivering the packet stops the run.
    pub each-ended : (packets : List ℕ) (i k : ℕ) (r : EventOutcome) (end : Evidence) → r ≡ Ended end → i < length packets → k ≡ get_or packets i k → (delivers_each (driver_of s m) (take i packets) w).ended ≡ None →
        HasChanged m refines (addressee (delivers_each (driver_of s m) (take i packets) w).state k) later
        (delivers (driver_of t m) (delivers_each (driver_of s m) (take i packets) w).state k) r →
        HasChanged m refines (reader_of_each (driver_of s m) packets w) later (delivers_each (driver_of s m) packets w) (Ended end)
    each-ended packets i k r end was lt is open' d =
        let D = driver_of s m in
        let now = delivers_each D (take i packets) w in
        let one = delivers D now.state k in
        let there : HasChanged m refines (addressee now.state k) later one (Ended end) = subst (λ (x : EventOutcome). HasChanged m refines (addressee now.state k) later one x) was (there-delivered now.state k r d) in
        let rest = drop (suc i) packets in
        let parts : packets ≡ take i packets ++ k ∷ rest = parted packets i k lt ∙ ap (λ (z : ℕ). take i packets ++ z ∷ rest) (sym is) in
        let all : delivers_each D packets w ≡ one =
        ap (λ (ks : List ℕ). delivers_each D ks w) parts ∙ each-append D (take i packets) (k ∷ rest) w
        ∙ unless-none now (delivers_each D (k ∷ rest)) open' ∙ unless-some one (delivers_each D rest) (end_of end) there.2 in
        let reader : reader_of_each (driver_of s m) packets w ≡ addressee now.state k =
        ap (λ (ks : List ℕ). reader_of_each (driver_of s m) ks w) parts ∙ reader-append (driver_of s m) (take i packets) (k ∷ rest) w
        ∙ ap (λ (o : Option End). reader_at o (reader_of_each (driver_of s m) (take i packets) w) (reader_of_each (driver_of s m) (k ∷ rest) now.state)) open'
        ∙ ap (λ (o : Option End). reader_at o (addressee now.state k) (reader_of_each (driver_of s m) rest one.state)) there.2 in
        subst (λ (o : Option ℕ). HasChanged m refines o later (delivers_each D packets w) (Ended end)) (sym reader)
        (subst (λ (e : Upshot (Machines Msg)). HasChanged m refines (addressee now.state k) later e (Ended end)) (sym all) there)

    there-pumped : (u : Machines Msg) (packets : List ℕ) (r : EventOutcome) → packets ≡ due u.held.net.network →
        HasChanged m refines (reader_of_each (driver_of t m) packets u) later (delivers_each (driver_of t m) packets u) r →
        HasChanged m refines (reader_of_pump (driver_of s m) u) later (pumps (driver_of s m) u) r
    there-pumped u packets r e d =
        subst (λ (ks : List ℕ). HasChanged m refines (reader_of_each (driver_of s m) ks u) later (delivers_each (driver_of s m) ks u) r) e
        (subst (λ (z : Setup). HasChanged m refines (reader_of_each (driver_of z m) packets u) later (delivers_each (driver_of z m) packets u) r) same d)

    -- One more pump.
    pub calms-next : (i : ℕ) (packets : List ℕ) (r : EventOutcome) (u : Machines Msg) → calms (driver_of s m) i w ≡ done u → packets ≡ due u.held.net.network →
        HasChanged m refines (reader_of_each (driver_of t m) packets u) later (delivers_each (driver_of t m) packets u) r → ((end : Evidence) → r ≡ Ended end → ⊥) →
        HasChanged m refines None later (calms (driver_of s m) (i + 1) w) Done
    calms-next i packets r u now e d no' =
        let D = driver_of s m in
        let on = still-runs (reader_of_pump (driver_of s m) u) later (pumps D u) r (there-pumped u packets r e d) no' in
        let all : calms D (i + 1) w ≡ done (pumps D u).state =
        calms-plus D i 1 w ∙ ap (λ (z : Upshot (Machines Msg)). unless z.ended z (calms D 1)) now ∙ unless-none (pumps D u) (λ z. done z) on.1 in
        subst (λ (z : Upshot (Machines Msg)). HasChanged m refines None later z Done) (sym all) (on.0, refl, refl)

    -- A pump stops the run.
    pub calms-ended : (i most : ℕ) (packets : List ℕ) (r : EventOutcome) (end : Evidence) (u : Machines Msg) → r ≡ Ended end → i < most → calms (driver_of s m) i w ≡ done u → packets ≡ due u.held.net.network →
        HasChanged m refines (reader_of_each (driver_of t m) packets u) later (delivers_each (driver_of t m) packets u) r →
        HasChanged m refines (reader_of_calm (driver_of s m) most w) later (calms (driver_of s m) most w) (Ended end)
    calms-ended i most packets r end u was lt now e d =
        let D = driver_of s m in
        let there : HasChanged m refines (reader_of_pump (driver_of s m) u) later (pumps D u) (Ended end) = subst (λ (x : EventOutcome). HasChanged m refines (reader_of_pump (driver_of s m) u) later (pumps D u) x) was (there-pumped u packets r e d) in
        let rest : ℕ = most - suc i in
        let whole : most ≡ i + suc rest = omega (arith, lt) in
        let all : calms D most w ≡ pumps D u =
        ap (λ (n : ℕ). calms D n w) whole ∙ calms-plus D i (suc rest) w ∙ ap (λ (z : Upshot (Machines Msg)). unless z.ended z (calms D (suc rest))) now
        ∙ unless-some (pumps D u) (calms D rest) (end_of end) there.2 in
        let reader : reader_of_calm (driver_of s m) most w ≡ reader_of_pump (driver_of s m) u =
        ap (λ (n : ℕ). reader_of_calm (driver_of s m) n w) whole ∙ reader-plus (driver_of s m) i (suc rest) w
        ∙ ap (λ (z : Upshot (Machines Msg)). reader_at z.ended (reader_of_calm (driver_of s m) i w) (reader_of_calm (driver_of s m) (suc rest) z.state)) now
        ∙ ap (λ (o : Option End). reader_at o (reader_of_pump (driver_of s m) u) (reader_of_calm (driver_of s m) rest (pumps D u).state)) there.2 in
        subst (λ (o : Option ℕ). HasChanged m refines o later (calms D most w) (Ended end)) (sym reader)
        (subst (λ (z : Upshot (Machines Msg)). HasChanged m refines (reader_of_pump (driver_of s m) u) later z (Ended end)) (sym all) there)

    -- A pump finds nothing in flight.
    pub calms-early : (i most : ℕ) (packets : List ℕ) (u : Machines Msg) → i < most → calms (driver_of s m) i w ≡ done u → packets ≡ due u.held.net.network → packets ≡ [] → RefinesMachines m refines later u →
        HasChanged m refines None later (calms (driver_of s m) most w) Done
    calms-early i most packets u lt now e none st =
        let D = driver_of s m in
        let rest : ℕ = most - i in
        let whole : most ≡ i + rest = omega (arith, lt) in
        let quiet : pumps D u ≡ done u = ap (λ (ks : List ℕ). delivers_each D ks u) (sym e ∙ none) in
        let all : calms D most w ≡ done u =
        ap (λ (n : ℕ). calms D n w) whole ∙ calms-plus D i rest w ∙ ap (λ (z : Upshot (Machines Msg)). unless z.ended z (calms D rest)) now ∙ calms-quiet D rest u quiet in
        subst (λ (z : Upshot (Machines Msg)). HasChanged m refines None later z Done) (sym all) (st, refl, refl)

  -- An event that was not lost and did not stop the run was applied.
  pub going-is : (d : Upshot (Machines Msg)) → d.lost ≡ None → d.ended ≡ None → d ≡ done d.state
  going-is d l e i = record { state = d.state; lost = l i; ended = e i }

  -- A pump is a calm of one.
  other-reader : (reader : Option ℕ) (later : SimulationState M Msg) (w : Machines Msg) (r : EventOutcome) → HasChanged m refines None later (done w) r → HasChanged m refines reader later (done w) r
  other-reader reader later w Done h = h
  other-reader reader later w (Lost why) h = h
  other-reader reader later w (Ended end) h = absurd (none-some (end_of end) h.2)

  once : (later : SimulationState M Msg) (r : EventOutcome) (reader : Option ℕ) (o : Option End) (d : Upshot (Machines Msg)) → d.ended ≡ o → (d.ended ≡ None → d.lost ≡ None) →
      HasChanged m refines (reader_at o reader None) later (unless o d (λ z. done z)) r → HasChanged m refines reader later d r
  once later r reader None d e goes h =
      subst (λ (z : Upshot (Machines Msg)). HasChanged m refines reader later z r) (sym (going-is d (goes e) e)) (other-reader reader later d.state r h)
  once later r reader (Some end) d e goes h = h

  pub once-pumped : (W : Driver (Machines Msg)) (later : SimulationState M Msg) (w : Machines Msg) (r : EventOutcome) →
      HasChanged m refines (reader_of_calm W 1 w) later (calms W 1 w) r → HasChanged m refines (reader_of_pump W w) later (pumps W w) r
  once-pumped W later w r h =
      once later r (reader_of_pump W w) (pumps W w).ended (pumps W w) refl (each-goes W (due (W.network w)) w) h

  -- A fact about an event carries over to an equal event.
  pub at-event : (v later : SimulationState M Msg) (o : Result EventOutcome NoMemory) (e is : Event) → e ≡ is →
      IfOk o (λ r. (w : Machines Msg) → RefinesMachines m refines v w → HasChanged m refines (reader_of (driver_of v.setup m) w is) later (apply_event (driver_of v.setup m) w is) r) →
      IfOk o (λ r. (w : Machines Msg) → RefinesMachines m refines v w → HasChanged m refines (reader_of (driver_of v.setup m) w e) later (apply_event (driver_of v.setup m) w e) r)
  at-event v later o e is same h =
      subst (λ (z : Event). IfOk o (λ r. (w : Machines Msg) → RefinesMachines m refines v w → HasChanged m refines (reader_of (driver_of v.setup m) w z) later (apply_event (driver_of v.setup m) w z) r)) (sym same) h
