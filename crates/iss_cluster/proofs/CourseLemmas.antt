-- One more event of a loop in a run: disks go on to work, and packets are added behind those that were sent.
use Rattle.std.proofs.Common.{◌≡◌, ◌∙◌, ℕ, Bool, true, false, cond, eqb, List, [], ◌∷◌, ◌++◌, length, take, Option, Some, None, refl, sym, ap, subst, append_assoc}
use Rattle.std.proofs.Math.Seq.{take-append_seam}
use Rattle.std.proofs.lemmas.List.{append-nil}
use Rattle.iss_base.specs.Lists.{nth, set_at}
use Rattle.iss_cluster.specs.Internal.Running.{Work}
use Rattle.iss_loops.specs.Traces.{IsOfLoop}
use Rattle.iss_network.specs.Network.{Network, settled}
use Rattle.iss_network.specs.declared.packets.Sent.{Sent}
use Rattle.iss_request.specs.declared.setups.Setup.{Setup}
use Rattle.iss_schedule.specs.declared.schedules.Event.{Event}
use Rattle.iss_schedule.specs.declared.schedules.Event.TheVariants.{Request as Event_request, Propose, Timeout as Event_timeout, Ask, Deliver, Lose, Pump, Calm, Hold, Free, Drop as Event_drop, Restart, Crash, Bytes}
use Rattle.iss_sb.specs.Evidence.{Module}
use Rattle.iss_sb.specs.declared.effects.Claim.{Claim}
use Rattle.iss_sb.specs.declared.effects.To.{To}
use Rattle.iss_rules.specs.Concrete.{request_of, rules_of}
use Rattle.iss_rules.specs.Ends.{End}
use Rattle.iss_rules.specs.Formats.{formats_of}
use Rattle.iss_rules.specs.Parcels.{Formats, OfRequest}
use Rattle.iss_rules.specs.Rules.{Rules}
use Rattle.iss_rules.specs.declared.events.NodeEvent.{NodeEvent}
use Rattle.iss_rules.specs.declared.events.NodeEvent.TheVariants.{Packet as On_packet, Propose as On_propose, Timeout as On_timeout, AskFrom as On_ask}
use Rattle.iss_rules.specs.declared.events.Why.TheVariants.{Stopped}
use Rattle.iss_model.specs.Courses.{Course, Machines, at_machine, by_step, disks_behind, stops, with_disks, with_packets, with_crashes}
use Rattle.iss_model.specs.Disks.{Disk, keeps, may_keep}
use Rattle.iss_model.specs.Driver.{Upshot, apply_event, delivered_to, done, lost_by, run_event_if_open}
use Rattle.iss_model.specs.Node.{Dropped, Stepped, Taken, step}
use Rattle.iss_model.specs.Run.{addressees, at_core, claims_at, first_forged, node_of, posted_all, posted_to, Held}
use Rattle.iss_theorems.proofs.CrashRecovery.CourseKeepsWhatStepsKeep.{course-holds}
use Rattle.iss_theorems.proofs.CrashRecovery.LostEventsAreNumbered.{after-more}
use Rattle.iss_theorems.specs.Headline.{course_after, held_after}

-- ---- disks

same-or-kept : (b : Bool) (d old : Disk) (event : NodeEvent) → (d.passes ≡ None) × (d.failed ≡ false) → (old.passes ≡ None) × (old.failed ≡ false)
    → ((cond b (keeps d event) old).passes ≡ None) × ((cond b (keeps d event) old).failed ≡ false)
same-or-kept true d old event a b = (go d.passes a.0, a.1)
  where
    go : (o : Option ℕ) → o ≡ None → (keeps (record d { passes = o }) event).passes ≡ None
    go None q = refl
    go (Some k) q = absurd (cc)
same-or-kept false d old event a b = b

keeps-works : (disks : ℕ → Disk) (c : ℕ) (event : NodeEvent) → Work disks → Work (set_at disks c (keeps (disks c) event))
keeps-works disks c event w = λ i. same-or-kept (eqb i c) (disks c) (disks i) event (w c) (w i)

behind-works : (o : Option End) (before behind : ℕ → Disk) → Work before → Work behind → Work (disks_behind o before behind)
behind-works None before behind a b = b
behind-works (Some end) before behind a b = a

module _ {Msg : Type 0} (s : Setup) (F : Formats Msg) (R : Rules) (M : Module Msg) where
  -- a disk without a budget keeps the event
  kept-works : (w : Machines Msg) (behind : ℕ → Disk) (c : ℕ) (d : Upshot (Held Msg)) (o : Option Claim) (passes : Option ℕ) → passes ≡ None → Work w.disks → Work behind
      → Work (cond (may_keep passes) (with_disks w behind d) (stops o w c)).state.disks
  kept-works w behind c d o None q a b = behind-works d.ended w.disks behind a b
  kept-works w behind c d o (Some k) q a b = absurd (cc)

  step-works : (w : Machines Msg) (c : ℕ) (event : NodeEvent) (o : Stepped Msg) → Work w.disks → Work (by_step s F R M w c event o).state.disks
  step-works w c event (Dropped why) a = behind-works (at_core s F R M w.held c event).ended w.disks w.disks a a
  step-works w c event (Taken t) a =
      kept-works w (set_at w.disks c (keeps (w.disks c) event)) c (at_core s F R M w.held c event)
      (first_forged s R w.held.signed (claims_at F R M (node_of s c) (w.held.net.cores c) event)) (w.disks c).passes (a c).0 a
      (keeps-works w.disks c event a)

  at-works : (w : Machines Msg) (c : ℕ) (event : NodeEvent) → Work w.disks → Work (at_machine s F R M w c event).state.disks
  at-works w c event a = go (w.disks c).failed
    where
      its_step : Stepped Msg
      its_step = step F R M (node_of s c) (w.held.net.cores c) event

      go : (b : Bool) → Work (cond b (lost_by w Stopped) (by_step s F R M w c event its_step)).state.disks
      go true = a
      go false = step-works w c event its_step a

  delivered-works : (w : Machines Msg) (k : ℕ) (o : Option Sent) → Work w.disks → Work (delivered_to (with_crashes s F R M) w k o).state.disks
  delivered-works w k None a = a
  delivered-works w k (Some p) a = at-works (with_packets w (settled w.held.net.network k)) p.to (On_packet p.bytes) a

  injected-works : (w : Machines Msg) (c : ℕ) (bytes : List ℕ) (b : Bool) → Work w.disks
      → Work (cond b (done w) (at_machine s F R M w c (On_packet bytes))).state.disks
  injected-works w c bytes true a = a
  injected-works w c bytes false a = at-works w c (On_packet bytes) a

  event-works : (w : Machines Msg) (e : Event) → IsOfLoop e → Work w.disks → Work (apply_event (with_crashes s F R M) w e).state.disks
  event-works w (Event_request c client number payload) k a =
      at-works w c (On_packet (F.wrap (record { from = 255; epoch = 0; body = OfRequest (request_of s client number payload) }))) a
  event-works w (Propose c) k a = at-works w c On_propose a
  event-works w (Event_timeout c l) k a = at-works w c (On_timeout l) a
  event-works w (Ask c peer) k a = at-works w c (On_ask peer) a
  event-works w (Deliver n) k a = delivered-works w n (nth w.held.net.network.packets n) a
  event-works w (Lose n) k a = absurd k
  event-works w Pump k a = absurd k
  event-works w (Calm n) k a = absurd k
  event-works w (Hold c) k a = absurd k
  event-works w (Free c) k a = absurd k
  event-works w (Event_drop c) k a = absurd k
  event-works w (Restart c) k a = absurd k
  event-works w (Crash c calls) k a = absurd k
  event-works w (Bytes c bytes) k a = injected-works w c bytes M.stopping a

  one-works : (p : Course Msg) (e : Event) (o : Option (ℕ × End)) → IsOfLoop e → Work p.state.disks → Work (run_event_if_open o (with_crashes s F R M) p e).state.disks
  one-works p e None k a = event-works p.state e k a
  one-works p e (Some at) k a = a

-- ---- packets

-- the packets begin with these
abbrev BeginWith : List Sent → List Sent → Type 0
BeginWith old now = (rest : List Sent) × (now ≡ old ++ rest)

begin-same : (old now : List Sent) → now ≡ old → BeginWith old now
begin-same old now q = ([], q ∙ sym (append-nil old))

begin-then : (old now later : List Sent) → BeginWith old now → BeginWith now later → BeginWith old later
begin-then old now later a b = (a.0 ++ b.0, b.1 ∙ ap (λ ps. ps ++ b.0) a.1 ∙ append_assoc old a.0 b.0)

posted-begins : (w : Network) (from : ℕ) (bytes cs : List ℕ) → BeginWith w.packets (posted_to w from bytes cs).packets
posted-begins w from bytes [] = begin-same w.packets w.packets refl
posted-begins w from bytes (c ∷ cs) =
    let p : Sent = record { from = from; to = c; bytes = bytes } in
    begin-then w.packets (w.packets ++ p ∷ []) _ (p ∷ [], refl) (posted-begins _ from bytes cs)

sends-begin : (s : Setup) (w : Network) (from : ℕ) (sends : List (To × List ℕ)) → BeginWith w.packets (posted_all s w from sends).packets
sends-begin s w from [] = begin-same w.packets w.packets refl
sends-begin s w from (x ∷ xs) =
    begin-then w.packets (posted_to w from x.1 (addressees s x.0)).packets _ (posted-begins w from x.1 (addressees s x.0)) (sends-begin s (posted_to w from x.1 (addressees s x.0)) from xs)

module _ {Msg : Type 0} (s : Setup) (M : Module Msg) (events : List Event) (e : Event) where
  -- disks work after one more event of a loop
  pub works-on : IsOfLoop e → Work (course_after s M events).state.disks → Work (course_after s M (events ++ e ∷ [])).state.disks
  works-on k a =
      subst (λ (p : Course Msg). Work p.state.disks) (sym (after-more s M events (e ∷ [])))
      (one-works s (formats_of s M) (rules_of s) M (course_after s M events) e (course_after s M events).ended k a)

  abbrev sent : List Sent
  sent = (held_after s M events).net.network.packets

  sent-begins : BeginWith sent (held_after s M (events ++ e ∷ [])).net.network.packets
  sent-begins =
      subst (λ (p : Course Msg). BeginWith sent p.state.held.net.network.packets) (sym (after-more s M events (e ∷ [])))
      (course-holds s (formats_of s M) (rules_of s) M (λ w. BeginWith sent w.held.net.network.packets)
      (λ w net same k. subst (λ (ps : List Sent). BeginWith sent ps) (sym same) k)
      (λ w c d same k. k)
      (λ w c event t q z k. begin-then sent w.held.net.network.packets _ k (sends-begin s w.held.net.network c t.sends))
      (λ w c k. k)
      (e ∷ []) (course_after s M events) (begin-same sent sent refl))

  -- the packets that were sent before are the first ones
  pub sent-first : take (length (held_after s M events).net.network.packets) (held_after s M (events ++ e ∷ [])).net.network.packets ≡ (held_after s M events).net.network.packets
  sent-first = ap (λ (ps : List Sent). take (length sent) ps) sent-begins.1 ∙ take-append_seam sent sent-begins.0
