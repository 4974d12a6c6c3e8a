-- What a run with disk failures reports of its events: the event that stops it is not lost, and lost events are
-- numbered in order.
use Rattle.std.proofs.Common.{◌≡◌, inl, inr, ℕ, zero, suc, ◌+◌, ◌<◌, ◌≤◌, Bool, true, false, cond, List, [], ◌∷◌, ◌++◌, length, Option, Some, None, refl, sym, ap, ◌∙◌, subst, arith}
use Rattle.iss_base.specs.Lists.{In, nth, set_at}
use Rattle.iss_base.proofs.Lists.{some-injective}
use Rattle.iss_network.specs.Network.{due, settled}
use Rattle.iss_network.specs.declared.packets.Sent.{Sent}
use Rattle.iss_request.specs.declared.setups.Setup.{Setup}
use Rattle.iss_schedule.specs.declared.schedules.Event.{Event}
use Rattle.iss_schedule.specs.declared.schedules.Event.TheVariants.{Request as Event_request, Propose, Timeout as Event_timeout, Ask, Deliver, Lose, Pump, Calm, Hold, Free, Drop as Event_drop, Restart, Crash, Bytes}
use Rattle.iss_sb.specs.declared.effects.Claim.{Claim}
use Rattle.iss_sb.specs.Evidence.{Module}
use Rattle.iss_rules.specs.Ends.{End}
use Rattle.iss_rules.specs.declared.events.NodeEvent.{NodeEvent}
use Rattle.iss_rules.specs.declared.events.NodeEvent.TheVariants.{Packet as On_packet, Propose as On_propose, Timeout as On_timeout, AskFrom as On_ask}
use Rattle.iss_rules.specs.declared.events.Why.{Why}
use Rattle.iss_rules.specs.declared.events.Why.TheVariants.{Stopped}
use Rattle.iss_rules.specs.Concrete.{request_of, rules_of}
use Rattle.iss_rules.specs.Formats.{formats_of}
use Rattle.iss_rules.specs.Parcels.{Formats, OfRequest}
use Rattle.iss_rules.specs.Rules.{Rules}
use Rattle.iss_model.specs.Node.{Dropped, Stepped, Taken, step}
use Rattle.iss_model.specs.Run.{Held, at_core, by_collision, by_forged, claims_at, collision_in, early_of, first_forged, node_of, turned_to, after_step as free_step}
use Rattle.iss_model.specs.Courses.{Course, Machines, at_machine, begin_course, by_step, stops, with_disks, with_packets, with_crashes}
use Rattle.iss_model.specs.Disks.{Disk, keeps, may_keep}
use Rattle.iss_model.specs.Driver.{Upshot, apply_event, calms, delivered_to, delivers, delivers_each, done, ended_at, loses, lost_by, noted, pumps, run, run_event, run_event_if_open, unless}
use Rattle.iss_theorems.specs.Recovery.{course_after}
use Rattle.iss_theorems.proofs.CrashRecovery.RunsInSequence.{course-append}

-- ---- numbers

-- each number is below n and below the next one, newest first
abbrev pub AreNumbered : ℕ → List (ℕ × Why) → Type 0
AreNumbered n [] = Unit {0}
AreNumbered n (d ∷ older) = (d.0 < n) × AreNumbered d.0 older

pub numbered-wider : (n m : ℕ) (drops : List (ℕ × Why)) → n ≤ m → AreNumbered n drops → AreNumbered m drops
numbered-wider n m [] le a = tt
numbered-wider n m (d ∷ older) le a = let below : d.0 < n = a.0 in (omega (arith, le, below), a.1)

pub numbered-below : (n : ℕ) (drops : List (ℕ × Why)) (d : ℕ × Why) → AreNumbered n drops → In d drops → d.0 < n
numbered-below n [] d a m = absurd m
numbered-below n (x ∷ older) d a (inl q) = subst (λ (y : ℕ × Why). y.0 < n) (sym q) a.0
numbered-below n (x ∷ older) d a (inr m) = numbered-below n older d (numbered-wider x.0 n older (let below : x.0 < n = a.0 in omega (arith, below)) a.1) m

numbered-noted : (n : ℕ) (o : Option Why) (drops : List (ℕ × Why)) → AreNumbered n drops → AreNumbered (suc n) (noted n o drops)
numbered-noted n None drops a = numbered-wider n (suc n) drops (omega arith) a
numbered-noted n (Some why) drops a = (omega arith, a)

-- if an event stops the run, the next number is the one after it
ended-then : (n : ℕ) (o : Option End) (k : ℕ) (end : End) → ended_at n o ≡ Some (k, end) → (k ≡ n) × (o ≡ Some end)
ended-then n None k end q = absurd (cc)
ended-then n (Some other) k end q =
    let same : (n, other) ≡ (k, end) = some-injective (n, other) (k, end) q in
    (sym (ap (λ (x : ℕ × End). x.0) same), ap (λ (x : ℕ × End). Some x.1) same)

module _ {Msg : Type 0} (s : Setup) (F : Formats Msg) (R : Rules) (M : Module Msg) where
  -- ---- an event that stops a run is not lost

  abbrev pub IsToldOnce : Upshot (Machines Msg) → Type 0
  IsToldOnce d = (end : End) → d.ended ≡ Some end → d.lost ≡ None

  untold : (d : Upshot (Machines Msg)) → d.ended ≡ None → IsToldOnce d
  untold d going end q = absurd (cc)

  -- so at a core that journals all that it takes
  turn-once : (h : Held Msg) (c : ℕ) (o : Stepped Msg) (end : End) → (free_step s h c o).ended ≡ Some end → (free_step s h c o).lost ≡ None
  turn-once h c (Dropped why) end q = absurd (cc)
  turn-once h c (Taken t) end q = go (collision_in t.strings h.hashed)
    where
      go : (o : Option End) → (by_collision o h (turned_to s h c t)).lost ≡ None
      go None = refl
      go (Some end) = refl

  core-once : (h : Held Msg) (c : ℕ) (event : NodeEvent) (end : End) → (at_core s F R M h c event).ended ≡ Some end → (at_core s F R M h c event).lost ≡ None
  core-once h c event end q = go (first_forged s R h.signed (claims_at F R M (node_of s c) (h.net.cores c) event ++ early_of stepped)) q
    where
      stepped : Stepped Msg
      stepped = step F R M (node_of s c) (h.net.cores c) event

      go : (o : Option Claim) → (by_forged o h (free_step s h c stepped)).ended ≡ Some end → (by_forged o h (free_step s h c stepped)).lost ≡ None
      go None k = turn-once h c stepped end k
      go (Some claim) k = refl

  stops-once : (o : Option Claim) (w : Machines Msg) (c : ℕ) → IsToldOnce (stops o w c)
  stops-once None w c = untold (stops None w c) refl
  stops-once (Some claim) w c = λ end q. refl

  kept-once : (w : Machines Msg) (behind : ℕ → Disk) (c : ℕ) (event : NodeEvent) (o : Option Claim) (b : Bool) →
      IsToldOnce (cond b (with_disks w behind (at_core s F R M w.held c event)) (stops o w c))
  kept-once w behind c event o true = core-once w.held c event
  kept-once w behind c event o false = stops-once o w c

  step-once : (w : Machines Msg) (c : ℕ) (event : NodeEvent) (o : Stepped Msg) → IsToldOnce (by_step s F R M w c event o)
  step-once w c event (Dropped why) = core-once w.held c event
  step-once w c event (Taken t) =
      kept-once w (set_at w.disks c (keeps (w.disks c) event)) c event
      (first_forged s R w.held.signed (claims_at F R M (node_of s c) (w.held.net.cores c) event)) (may_keep (w.disks c).passes)

  at-once : (w : Machines Msg) (c : ℕ) (event : NodeEvent) → IsToldOnce (at_machine s F R M w c event)
  at-once w c event = go (w.disks c).failed
    where
      stepped : Stepped Msg
      stepped = step F R M (node_of s c) (w.held.net.cores c) event

      go : (b : Bool) → IsToldOnce (cond b (lost_by w Stopped) (by_step s F R M w c event stepped))
      go true = untold (lost_by w Stopped) refl
      go false = step-once w c event stepped

  delivered-once : (w : Machines Msg) (k : ℕ) (o : Option Sent) → IsToldOnce (delivered_to (with_crashes s F R M) w k o)
  delivered-once w k None = untold (delivered_to (with_crashes s F R M) w k None) refl
  delivered-once w k (Some p) = at-once (with_packets w (settled w.held.net.network k)) p.to (On_packet p.bytes)

  unless-once : (d : Upshot (Machines Msg)) (more : Machines Msg → Upshot (Machines Msg)) → IsToldOnce d → ((v : Machines Msg) → IsToldOnce (more v)) → (o : Option End) →
      IsToldOnce (unless o d more)
  unless-once d more a b None = b d.state
  unless-once d more a b (Some end) = a

  each-once : (ks : List ℕ) (w : Machines Msg) → IsToldOnce (delivers_each (with_crashes s F R M) ks w)
  each-once [] w = untold (done w) refl
  each-once (k ∷ ks) w =
      let d = delivers (with_crashes s F R M) w k in
      unless-once d (delivers_each (with_crashes s F R M) ks) (delivered-once w k (nth w.held.net.network.packets k)) (λ v. each-once ks v) d.ended

  calms-once : (k : ℕ) (w : Machines Msg) → IsToldOnce (calms (with_crashes s F R M) k w)
  calms-once zero w = untold (done w) refl
  calms-once (suc k) w =
      let d = pumps (with_crashes s F R M) w in
      unless-once d (calms (with_crashes s F R M) k) (each-once (due w.held.net.network) w) (λ v. calms-once k v) d.ended

  loses-once : (w : Machines Msg) (k : ℕ) (o : Option Sent) → IsToldOnce (loses (with_crashes s F R M) w k o)
  loses-once w k None = untold (loses (with_crashes s F R M) w k None) refl
  loses-once w k (Some p) = untold (loses (with_crashes s F R M) w k (Some p)) refl

  injects-once : (w : Machines Msg) (c : ℕ) (bytes : List ℕ) (b : Bool) → IsToldOnce (cond b (done w) (at_machine s F R M w c (On_packet bytes)))
  injects-once w c bytes true = untold (done w) refl
  injects-once w c bytes false = at-once w c (On_packet bytes)

  pub told-once : (w : Machines Msg) (e : Event) → IsToldOnce (apply_event (with_crashes s F R M) w e)
  told-once w (Event_request c client number payload) =
      at-once w c (On_packet (F.wrap (record { from = 255; epoch = 0; body = OfRequest (request_of s client number payload) })))
  told-once w (Propose c) = at-once w c On_propose
  told-once w (Event_timeout c l) = at-once w c (On_timeout l)
  told-once w (Ask c peer) = at-once w c (On_ask peer)
  told-once w (Deliver k) = delivered-once w k (nth w.held.net.network.packets k)
  told-once w (Lose k) = loses-once w k (nth w.held.net.network.packets k)
  told-once w Pump = each-once (due w.held.net.network) w
  told-once w (Calm k) = calms-once k w
  told-once w (Hold c) = untold (apply_event (with_crashes s F R M) w (Hold c)) refl
  told-once w (Free c) = untold (apply_event (with_crashes s F R M) w (Free c)) refl
  told-once w (Event_drop c) = untold (apply_event (with_crashes s F R M) w (Event_drop c)) refl
  told-once w (Restart c) = untold (apply_event (with_crashes s F R M) w (Restart c)) refl
  told-once w (Crash c calls) = untold (apply_event (with_crashes s F R M) w (Crash c calls)) refl
  told-once w (Bytes c bytes) = injects-once w c bytes M.stopping

  -- the event that stops the run is not noted as lost
  pub end-notes-nothing : (p : Course Msg) (e : Event) (end : End) → (apply_event (with_crashes s F R M) p.state e).ended ≡ Some end → (run_event (with_crashes s F R M) p e).drops ≡ p.drops
  end-notes-nothing p e end q = ap (λ (o : Option Why). noted p.event o p.drops) (told-once p.state e end q)

  -- ---- one more event, and events after the stop

  pub further-on : (p : Course Msg) (e : Event) → p.ended ≡ None → run_event_if_open p.ended (with_crashes s F R M) p e ≡ run_event (with_crashes s F R M) p e
  further-on p e going = ap (λ (o : Option (ℕ × End)). run_event_if_open o (with_crashes s F R M) p e) going

  pub further-stays : (p : Course Msg) (e : Event) (at : ℕ × End) → p.ended ≡ Some at → run_event_if_open p.ended (with_crashes s F R M) p e ≡ p
  further-stays p e at q = ap (λ (o : Option (ℕ × End)). run_event_if_open o (with_crashes s F R M) p e) q

  pub course-stays : (es : List Event) (p : Course Msg) (at : ℕ × End) → p.ended ≡ Some at → run (with_crashes s F R M) p es ≡ p
  course-stays [] p at q = refl
  course-stays (e ∷ es) p at q = ap (λ (z : Course Msg). run (with_crashes s F R M) z es) (further-stays p e at q) ∙ course-stays es p at q

  -- ---- numbers of a run with disk failures

  -- lost events are numbered in order, and so is the event that stopped the run
  pub record IsCounted (p : Course Msg) : Type 0 where
    pub drops : AreNumbered p.event p.drops
    pub end : (k : ℕ) (end : End) → p.ended ≡ Some (k, end) → k < p.event

  on-counted : (p : Course Msg) (e : Event) → IsCounted p → IsCounted (run_event (with_crashes s F R M) p e)
  on-counted p e a = record {
    drops = numbered-noted p.event (apply_event (with_crashes s F R M) p.state e).lost p.drops a.drops;
    end = λ k end q. let there = ended-then p.event (apply_event (with_crashes s F R M) p.state e).ended k end q in let same : k ≡ p.event = there.0 in omega (arith, same);
  }

  further-counted : (p : Course Msg) (e : Event) → IsCounted p → (o : Option (ℕ × End)) → IsCounted (run_event_if_open o (with_crashes s F R M) p e)
  further-counted p e a None = on-counted p e a
  further-counted p e a (Some at) = a

  pub course-counted : (es : List Event) (p : Course Msg) → IsCounted p → IsCounted (run (with_crashes s F R M) p es)
  course-counted [] p a = a
  course-counted (e ∷ es) p a = course-counted es (run_event_if_open p.ended (with_crashes s F R M) p e) (further-counted p e a p.ended)

  pub begin-counted : IsCounted (begin_course s)
  begin-counted = record { drops = tt; end = λ k end q. absurd (cc) }

  -- a run that has not stopped has counted all events
  counted-on : (p : Course Msg) (e : Event) (more : ℕ) (o : Option (ℕ × End)) → p.ended ≡ o → (n : Course Msg) → n ≡ run_event_if_open p.ended (with_crashes s F R M) p e →
      (later : Course Msg) → ((at : ℕ × End) → p.ended ≡ Some at → later ≡ p) → later.ended ≡ None → later.event ≡ n.event + more → later.event ≡ p.event + suc more
  counted-on p e more None z n is later over q rest =
      let one : n.event ≡ suc p.event = ap (λ (c : Course Msg). c.event) (is ∙ further-on p e z) in
      omega (arith, one, rest)
  counted-on p e more (Some at) z n is later over q rest =
      let ended : later.ended ≡ Some at = ap (λ (c : Course Msg). c.ended) (over at z) ∙ z in
      absurd (cc)

  pub all-counted : (es : List Event) (p : Course Msg) → (run (with_crashes s F R M) p es).ended ≡ None → (run (with_crashes s F R M) p es).event ≡ p.event + length es
  all-counted [] p q = omega arith
  all-counted (e ∷ es) p q =
      let n : Course Msg = run_event_if_open p.ended (with_crashes s F R M) p e in
      counted-on p e (length es) p.ended refl n refl (run (with_crashes s F R M) p (e ∷ es)) (λ at z. course-stays (e ∷ es) p at z) q (all-counted es n q)

-- ---- the same from the start

module _ {Msg : Type 0} (s : Setup) (M : Module Msg) where
  pub after-more : (es more : List Event) → course_after s M (es ++ more) ≡ run (with_crashes s (formats_of s M) (rules_of s) M) (course_after s M es) more
  after-more es more = course-append s (formats_of s M) (rules_of s) M es more (begin_course s)

  pub after-one : (es : List Event) (e : Event) → (course_after s M es).ended ≡ None →
      course_after s M (es ++ e ∷ []) ≡ run_event (with_crashes s (formats_of s M) (rules_of s) M) (course_after s M es) e
  after-one es e going = after-more es (e ∷ []) ∙ further-on s (formats_of s M) (rules_of s) M (course_after s M es) e going

  pub after-stays : (es more : List Event) (at : ℕ × End) → (course_after s M es).ended ≡ Some at → course_after s M (es ++ more) ≡ course_after s M es
  after-stays es more at q = after-more es more ∙ course-stays s (formats_of s M) (rules_of s) M more (course_after s M es) at q

  pub after-counted : (es : List Event) → IsCounted s (formats_of s M) (rules_of s) M (course_after s M es)
  after-counted es = course-counted s (formats_of s M) (rules_of s) M es (begin_course s) (begin-counted s (formats_of s M) (rules_of s) M)
