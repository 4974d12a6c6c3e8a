-- Conservation: in every run each request that a correct core accepted is in exactly one place.
use Rattle.std.proofs.Common.{◌≡◌, ◌⊎◌, inl, inr, ℕ, zero, suc, Bool, true, false, cond, eqb, List, [], ◌∷◌, Option, Some, None, refl, sym, subst, arith}
use Rattle.iss_base.specs.Lists.{In, nth, set_at}
use Rattle.iss_base.proofs.Lists.{is-eq, same_or_not, set_at-other, set_at-same}
use Rattle.iss_network.specs.Network.{Network, due, settled}
use Rattle.iss_network.specs.declared.packets.Sent.{Sent}
use Rattle.iss_request.specs.Log.{ids, log_ids}
use Rattle.iss_request.specs.declared.ids.ReqId.{ReqId}
use Rattle.iss_request.specs.declared.requests.Request.{Request}
use Rattle.iss_request.specs.declared.setups.Setup.{Setup}
use Rattle.iss_schedule.specs.declared.schedules.Event.{Event}
use Rattle.iss_schedule.specs.declared.schedules.Event.TheVariants.{Request as Event_request, Propose, Timeout as Event_timeout, Ask, Deliver, Lose, Pump, Calm, Hold, Free, Drop as Event_drop, Restart, Crash, Bytes}
use Rattle.iss_sb.specs.declared.effects.Claim.{Claim}
use Rattle.iss_sb.specs.Evidence.{Module}
use Rattle.iss_sb.specs.Laws.{AcceptsOnce, IsLawful, IsSafe}
use Rattle.iss_rules.specs.declared.events.NodeEvent.{NodeEvent}
use Rattle.iss_rules.specs.declared.events.NodeEvent.TheVariants.{Packet as On_packet, Propose as On_propose, Timeout as On_timeout, AskFrom as On_ask}
use Rattle.iss_composition.specs.Checkpoints.{scheme_of}
use Rattle.iss_rules.specs.Concrete.{rules_of, request_of}
use Rattle.iss_theorems.specs.Conserved.{IsConserved, One, WasAsked, asked_in, unless_ended}
use Rattle.iss_rules.specs.Formats.{formats_of}
use Rattle.iss_rules.specs.Parcels.{Formats, OfRequest, Parcel}
use Rattle.iss_model.specs.Node.{Core, Dropped, Stepped, Taken, Turn, flown, step, takes_bytes}
use Rattle.iss_theorems.specs.OneLog.{AreOfCluster, free_after, run_after}
use Rattle.iss_rules.specs.Past.{Past, log_of}
use Rattle.iss_rules.specs.Rules.{Rules}
use Rattle.iss_rules.specs.Ends.{End}
use Rattle.iss_model.specs.Run.{Held, Net, after_step, at_core, begin_net, begin_run, by_collision, by_forged, collision_in, first_forged, node_of, posted_all, turned_to, with_network, failure_free}
use Rattle.iss_model.specs.Driver.{Progress, Upshot, apply_event, calms, delivered_to, delivers, delivers_each, done, loses, pumps, run, run_event_if_open, unless}
use Rattle.iss_rules.specs.Setups.{IsSetupOf}
use Rattle.iss_rules.proofs.Faithful.{IsFaithful, IsReadBack}
use Rattle.iss_composition.proofs.Good.{Good}
use Rattle.iss_rules.proofs.Ids.{ids-right}
use Rattle.iss_theorems.proofs.NoLoss.OnePlaceInCluster.{one-place, segments}
use Rattle.iss_model.proofs.Places.{Filed, FiledCore, HasSegments, IsPlaced, Keeps, PlacedCore, keeps-refl, keeps-trans, request-waits, step-keeps}
use Rattle.iss_composition.proofs.Reached.{good-reach}
use Rattle.iss_model.proofs.Twins.{correct-is}

none : (x : ReqId) (o : Option End) → In x (unless_ended o []) → ⊥
none x None h = h
none x (Some end) h = h

-- all cores of a net, and what an event keeps of each
module _ {Msg : Type 0} (s : Setup) (R : Rules) (M : Module Msg) where
  abbrev pub AllFiled : Net Msg → Type 0
  AllFiled w = (j : ℕ) → FiledCore R M (node_of s j) (w.cores j)

  abbrev pub AllKept : Net Msg → Net Msg → Type 0
  AllKept w v = (j : ℕ) → Keeps R M (node_of s j) (w.cores j) (v.cores j)

  pub all-filed : (w v : Net Msg) → AllKept w v → AllFiled v
  all-filed w v k j = (k j).filed

  pub kept-refl : (w : Net Msg) → AllFiled w → AllKept w w
  kept-refl w h j = keeps-refl R M (node_of s j) (w.cores j) (h j)

  pub kept-trans : (u v w : Net Msg) → AllKept u v → (AllFiled v → AllKept v w) → AllKept u w
  kept-trans u v w a f j = keeps-trans R M (node_of s j) (u.cores j) (v.cores j) (w.cores j) (a j) (λ _. f (all-filed u v a) j)

  pub set-kept : (w : Net Msg) → AllFiled w → (c : ℕ) (d : Core Msg) (network : Network) → Keeps R M (node_of s c) (w.cores c) d →
      AllKept w (record { cores = set_at w.cores c d; network = network })
  set-kept w h c d network k j = elim (same_or_not j c) [
    | inl e ↦ rw (e, set_at-same w.cores c d) k
    | inr ne ↦ rw (set_at-other w.cores c d j ne) (keeps-refl R M (node_of s j) (w.cores j) (h j))
  ]

  pub begin-filed : AllFiled (begin_net s)
  begin-filed j = record {
    settled = record { all = λ d k v h. absurd (cc) };
    unborn = λ e l lt. refl;
    reached = omega arith;
    waiting_once = tt;
    flight_once = tt;
    apart = λ x a b. a;
    unlogged = λ x a b. a;
    cast = λ f k. absurd k;
    open_slot = λ f k. absurd k;
  }

-- a request that is accepted waits
module _ {Msg : Type 0} (s : Setup) (F : Formats Msg) (R : Rules) (M : Module Msg) (seg : HasSegments R) where
  pub waits-now : (c : Core Msg) (i : ℕ) (q : Request) (t : Turn Msg) (o : Option (Parcel Msg)) →
      (o ≡ Some (record { from = 255; epoch = 0; body = OfRequest q })) ⊎ (o ≡ None) → takes_bytes F R M i c o ≡ Taken t → In q.id (ids t.core.waiting)
  waits-now c i q t o (inl e) k =
      let k2 : takes_bytes F R M i c (Some (record { from = 255; epoch = 0; body = OfRequest q })) ≡ Taken t = rw e at k in
      let r = request-waits R M i F seg c q t k2 in
      rw r.1 (ids-right q.id c.waiting (q ∷ []) (inl refl))
  waits-now c i q t o (inr e) k =
      let k2 : takes_bytes F R M i c None ≡ Taken t = rw e at k in
      absurd (cc)

  pub waits-at : (w : Net Msg) (c : ℕ) (x : ReqId) (d : Core Msg) → In x (ids d.waiting) → (i : ℕ) (b : Bool) → eqb c i ≡ b →
      (y : ReqId) → In y (cond b (x ∷ []) []) → PlacedCore R M (node_of s i) (set_at w.cores c d i) y
  waits-at w c x d waits i true e y (inl z) = let ci : c ≡ i = is-eq c i e in rw (← ci, set_at-same w.cores c d) (inr (inl (rw z waits)))
  waits-at w c x d waits i true e y (inr z) = absurd z
  waits-at w c x d waits i false e y z = absurd z

-- what each core took stays over a run
module _ {Msg : Type 0} (s : Setup) (F : Formats Msg) (R : Rules) (M : Module Msg) (law : IsLawful M) (seg : HasSegments R)
    (requests : (q : Request) → IsReadBack F (record { from = 255; epoch = 0; body = OfRequest q })) where
  abbrev kept : Held Msg → Held Msg → Type 0
  kept h g = AllKept s R M h.net g.net

  stays : (h : Held Msg) → AllFiled s R M h.net → kept h h
  stays h f = kept-refl s R M h.net f

  after-kept : (h : Held Msg) → AllFiled s R M h.net → (c : ℕ) (event : NodeEvent) (o : Stepped Msg) → step F R M (node_of s c) (h.net.cores c) event ≡ o →
      kept h (after_step s h c o).state
  after-kept h f c event (Dropped why) q = stays h f
  after-kept h f c event (Taken t) q = go (collision_in t.strings h.hashed)
    where
      go : (o : Option End) → kept h (by_collision o h (turned_to s h c t)).state
      go None = set-kept s R M h.net f c t.core (posted_all s h.net.network c t.sends) (step-keeps R M (node_of s c) F seg law (h.net.cores c) event t (f c) q)
      go (Some end) = stays h f

  at-kept : (h : Held Msg) → AllFiled s R M h.net → (c : ℕ) (event : NodeEvent) → kept h (at_core s F R M h c event).state
  at-kept h f c event = go (first_forged s R h.signed _) (step F R M (node_of s c) (h.net.cores c) event) refl
    where
      go : (k : Option Claim) (o : Stepped Msg) → step F R M (node_of s c) (h.net.cores c) event ≡ o → kept h (by_forged k h (after_step s h c o)).state
      go None o q = after-kept h f c event o q
      go (Some claim) o q = stays h f

  deliver-kept : (h : Held Msg) → AllFiled s R M h.net → (k : ℕ) (o : Option Sent) → kept h (delivered_to (failure_free s F R M) h k o).state
  deliver-kept h f k None = stays h f
  deliver-kept h f k (Some p) = at-kept (with_network h (settled h.net.network k)) f p.to (On_packet p.bytes)

  unless-kept : (h : Held Msg) (d : Upshot (Held Msg)) (more : Held Msg → Upshot (Held Msg)) → kept h d.state →
      (AllFiled s R M d.state.net → kept d.state (more d.state).state) → (o : Option End) → kept h (unless o d more).state
  unless-kept h d more a b None = kept-trans s R M h.net d.state.net (more d.state).state.net a b
  unless-kept h d more a b (Some end) = a

  each-kept : (ks : List ℕ) (h : Held Msg) → AllFiled s R M h.net → kept h (delivers_each (failure_free s F R M) ks h).state
  each-kept [] h f = stays h f
  each-kept (k ∷ ks) h f =
      let d = delivers (failure_free s F R M) h k in
      unless-kept h d (delivers_each (failure_free s F R M) ks) (deliver-kept h f k (nth h.net.network.packets k)) (λ g. each-kept ks d.state g) d.ended

  calm-kept : (m : ℕ) (h : Held Msg) → AllFiled s R M h.net → kept h (calms (failure_free s F R M) m h).state
  calm-kept zero h f = stays h f
  calm-kept (suc m) h f =
      let d = pumps (failure_free s F R M) h in
      unless-kept h d (calms (failure_free s F R M) m) (each-kept (due h.net.network) h f) (λ g. calm-kept m d.state g) d.ended

  lose-kept : (h : Held Msg) → AllFiled s R M h.net → (k : ℕ) (o : Option Sent) → kept h (loses (failure_free s F R M) h k o).state
  lose-kept h f k None = stays h f
  lose-kept h f k (Some p) = stays h f

  inject-kept : (h : Held Msg) → AllFiled s R M h.net → (c : ℕ) (bytes : List ℕ) (b : Bool) → kept h (cond b (done h) (at_core s F R M h c (On_packet bytes))).state
  inject-kept h f c bytes true = stays h f
  inject-kept h f c bytes false = at-kept h f c (On_packet bytes)

  happens-kept : (h : Held Msg) → AllFiled s R M h.net → (e : Event) → kept h (apply_event (failure_free s F R M) h e).state
  happens-kept h f (Event_request c client number payload) =
      at-kept h f c (On_packet (F.wrap (record { from = 255; epoch = 0; body = OfRequest (request_of s client number payload) })))
  happens-kept h f (Propose c) = at-kept h f c On_propose
  happens-kept h f (Event_timeout c l) = at-kept h f c (On_timeout l)
  happens-kept h f (Ask c peer) = at-kept h f c (On_ask peer)
  happens-kept h f (Deliver k) = deliver-kept h f k (nth h.net.network.packets k)
  happens-kept h f (Lose k) = lose-kept h f k (nth h.net.network.packets k)
  happens-kept h f Pump = each-kept (due h.net.network) h f
  happens-kept h f (Calm m) = calm-kept m h f
  happens-kept h f (Hold c) = stays h f
  happens-kept h f (Free c) = stays h f
  happens-kept h f (Event_drop c) = stays h f
  happens-kept h f (Restart c) = stays h f
  happens-kept h f (Crash c calls) = stays h f
  happens-kept h f (Bytes c bytes) = inject-kept h f c bytes M.stopping

  goes-kept : (p : Progress (Held Msg)) → AllFiled s R M p.state.net → (e : Event) (o : Option (ℕ × End)) → kept p.state (run_event_if_open o (failure_free s F R M) p e).state
  goes-kept p f e None = happens-kept p.state f e
  goes-kept p f e (Some end) = stays p.state f

  pub run-kept : (es : List Event) (p : Progress (Held Msg)) → AllFiled s R M p.state.net → kept p.state (run (failure_free s F R M) p es).state
  run-kept [] p f = stays p.state f
  run-kept (e ∷ es) p f =
      let g = run_event_if_open p.ended (failure_free s F R M) p e in
      kept-trans s R M p.state.net g.state.net (run (failure_free s F R M) g es).state.net (goes-kept p f e p.ended) (λ z. run-kept es g z)

  asked-now : (h : Held Msg) (e : Event) (i : ℕ) (x : ReqId) → In x (asked_in i e (apply_event (failure_free s F R M) h e)) →
      PlacedCore R M (node_of s i) ((apply_event (failure_free s F R M) h e).state.net.cores i) x
  asked-now h (Event_request c client number payload) i x m = honest (first_forged s R h.signed _) (step F R M (node_of s c) (h.net.cores c) event) refl m
    where
      q : Request
      q = request_of s client number payload

      event : NodeEvent
      event = On_packet (F.wrap (record { from = 255; epoch = 0; body = OfRequest q }))

      e : Event
      e = Event_request c client number payload

      turned : (t : Turn Msg) → step F R M (node_of s c) (h.net.cores c) event ≡ Taken t → (o : Option End) →
          In x (asked_in i e (by_collision o h (turned_to s h c t))) → PlacedCore R M (node_of s i) ((by_collision o h (turned_to s h c t)).state.net.cores i) x
      turned t k None z =
          waits-at s F R M seg h.net c q.id t.core
          (waits-now s F R M seg (h.net.cores c) (node_of s c) q t (F.unwrap (F.wrap (record { from = 255; epoch = 0; body = OfRequest q }))) (requests q) k)
          i (eqb c i) refl x z
      turned t k (Some end) z = absurd z

      taken : (o : Stepped Msg) → step F R M (node_of s c) (h.net.cores c) event ≡ o → In x (asked_in i e (after_step s h c o)) →
          PlacedCore R M (node_of s i) ((after_step s h c o).state.net.cores i) x
      taken (Dropped why) k z = absurd z
      taken (Taken t) k z = turned t k (collision_in t.strings h.hashed) z

      honest : (f : Option Claim) (o : Stepped Msg) → step F R M (node_of s c) (h.net.cores c) event ≡ o →
          In x (asked_in i e (by_forged f h (after_step s h c o))) →
          PlacedCore R M (node_of s i) ((by_forged f h (after_step s h c o)).state.net.cores i) x
      honest None o k z = taken o k z
      honest (Some claim) o k z = absurd z
  asked-now h (Propose c) i x m = absurd (none x (apply_event (failure_free s F R M) h (Propose c)).ended m)
  asked-now h (Event_timeout c l) i x m = absurd (none x (apply_event (failure_free s F R M) h (Event_timeout c l)).ended m)
  asked-now h (Ask c peer) i x m = absurd (none x (apply_event (failure_free s F R M) h (Ask c peer)).ended m)
  asked-now h (Deliver k) i x m = absurd (none x (apply_event (failure_free s F R M) h (Deliver k)).ended m)
  asked-now h (Lose k) i x m = absurd (none x (apply_event (failure_free s F R M) h (Lose k)).ended m)
  asked-now h Pump i x m = absurd (none x (apply_event (failure_free s F R M) h Pump).ended m)
  asked-now h (Calm n) i x m = absurd (none x (apply_event (failure_free s F R M) h (Calm n)).ended m)
  asked-now h (Hold c) i x m = absurd m
  asked-now h (Free c) i x m = absurd m
  asked-now h (Event_drop c) i x m = absurd m
  asked-now h (Restart c) i x m = absurd m
  asked-now h (Crash c calls) i x m = absurd m
  asked-now h (Bytes c bytes) i x m = absurd (none x (apply_event (failure_free s F R M) h (Bytes c bytes)).ended m)

  pub asked-placed : (es : List Event) (p : Progress (Held Msg)) → AllFiled s R M p.state.net → (i : ℕ) (x : ReqId) → WasAsked (failure_free s F R M) p es i x →
      PlacedCore R M (node_of s i) ((run (failure_free s F R M) p es).state.net.cores i) x
  asked-placed [] p f i x k = absurd k
  asked-placed (e ∷ es) p f i x (inl k) =
      let g = run_event_if_open p.ended (failure_free s F R M) p e in
      let f2 : AllFiled s R M g.state.net = all-filed s R M p.state.net g.state.net (goes-kept p f e p.ended) in
      (run-kept es g f2 i).kept x (now p.ended k)
    where
      now : (o : Option (ℕ × End)) → In x (unless_ended o (asked_in i e (apply_event (failure_free s F R M) p.state e))) →
          PlacedCore R M (node_of s i) ((run_event_if_open o (failure_free s F R M) p e).state.net.cores i) x
      now None z = asked-now p.state e i x z
      now (Some end) z = absurd z
  asked-placed (e ∷ es) p f i x (inr k) =
      let g = run_event_if_open p.ended (failure_free s F R M) p e in
      asked-placed es g (all-filed s R M p.state.net g.state.net (goes-kept p f e p.ended)) i x k

-- in every run
pub conserved : {Msg : Type 0} (s : Setup) (M : Module Msg) → IsSetupOf M s → IsFaithful s (formats_of s M) M → IsLawful M → IsSafe M → AcceptsOnce M →
    (events : List Event) → AreOfCluster s M (free_after s M events) → IsConserved s M events
conserved {Msg} s M h faithful law safe once events c i ok x asked =
    let F = formats_of s M in
    let R = rules_of s in
    let seg = segments s M h in
    let w = c.cluster in
    let core = (run_after s M events).state.net.cores i in
    let is : node_of s i ≡ i = correct-is s i ok in
    let filed : FiledCore R M i core = subst (λ (n : ℕ). FiledCore R M n core) is
    (run-kept s F R M law seg faithful.requests events (begin_run s) (begin-filed s R M) i).filed in
    let placed : PlacedCore R M i core x = subst (λ (n : ℕ). PlacedCore R M n core x) is
    (asked-placed s F R M law seg faithful.requests events (begin_run s) (begin-filed s R M) i x asked) in
    let good : Good s R M w (scheme_of s) = good-reach s (scheme_of s) R M safe law c.sound w c.exact c.separate c.reached in
    let filed_there : Filed R M i (w.pasts i) core.waiting core.flight =
    subst (λ (pasts : ℕ → Past Msg). Filed R M i (pasts i) core.waiting core.flight) (sym c.pasts) filed in
    let placed_there : IsPlaced R M i (w.pasts i) core.waiting core.flight x =
    subst (λ (pasts : ℕ → Past Msg). IsPlaced R M i (pasts i) core.waiting core.flight x) (sym c.pasts) placed in
    let one : One (In x (log_ids (log_of R M i (w.pasts i)))) (In x (ids core.waiting)) (In x (flown core.flight)) =
    one-place s (scheme_of s) R M safe once c.sound seg w c.separate good i ok core.waiting core.flight filed_there x placed_there in
    subst (λ (pasts : ℕ → Past Msg). One (In x (log_ids (log_of R M i (pasts i)))) (In x (ids core.waiting)) (In x (flown core.flight))) c.pasts one
