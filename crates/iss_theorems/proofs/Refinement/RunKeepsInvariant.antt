-- A run, until it stops, is a sequence of moves of a cluster with the run's books.
use Rattle.std.proofs.Common.{◌≡◌, inl, inr, ℕ, ◌<◌, zero, suc, Bool, true, false, cond, List, [], ◌∷◌, ◌++◌, Option, Some, None, refl, sym, ap, ◌∙◌, subst, arith, true≢false}
use Rattle.iss_base.specs.Lists.{In, nth}
use Rattle.iss_base.proofs.Lists.{nth-in}
use Rattle.iss_network.specs.Network.{Network, due, settled}
use Rattle.iss_network.specs.declared.packets.Sent.{Sent}
use Rattle.iss_request.specs.declared.requests.Request.{Request}
use Rattle.iss_request.specs.declared.requests.Value.{Value}
use Rattle.iss_request.specs.declared.setups.Setup.{Setup}
use Rattle.iss_schedule.specs.declared.schedules.Event.{Event}
use Rattle.iss_schedule.specs.declared.schedules.Event.TheVariants.{Request as Event_request, Propose, Timeout as Event_timeout, Ask, Deliver, Lose, Pump, Calm, Hold, Free, Drop as Event_drop, Restart, Crash, Bytes}
use Rattle.iss_sb.specs.Evidence.{Module}
use Rattle.iss_rules.specs.declared.events.NodeEvent.{NodeEvent}
use Rattle.iss_rules.specs.declared.events.NodeEvent.TheVariants.{Packet as On_packet, Propose as On_propose, Timeout as On_timeout, AskFrom as On_ask}
use Rattle.iss_composition.specs.Checkpoints.{scheme_of}
use Rattle.iss_composition.specs.Cluster.{Cluster, Message, begin, chain_strings}
use Rattle.iss_rules.specs.Parcels.{Body, Formats, OfRequest}
use Rattle.iss_rules.specs.Rules.{Rules}
use Rattle.iss_rules.specs.Ends.{End}
use Rattle.iss_rules.specs.Concrete.{request_of}
use Rattle.iss_model.specs.Run.{Held, at_core, begin_run, cores_of, node_of, with_network, failure_free}
use Rattle.iss_rules.proofs.Faithful.{is_message}
use Rattle.iss_model.specs.Runs.{AreAtCores, IsAtCore}
use Rattle.iss_model.specs.Driver.{Progress, Upshot, apply_event, calms, delivered_to, delivers, delivers_each, done, loses, pumps, run, run_event_if_open, unless}
use Rattle.iss_theorems.proofs.Refinement.EventKeepsInvariant.{at-fits}
use Rattle.iss_rules.proofs.Logs.{newborn-log}
use Rattle.iss_model.proofs.Casts.{idle-ready}
use Rattle.iss_model.proofs.Grown.{Grows, at-grows, grows-trans, same-net}
use Rattle.iss_theorems.proofs.Refinement.Invariant.{Fits as FitsBy, IsPosted, Premises, view}
use Rattle.iss_theorems.proofs.Refinement.ClusterDuringStep.{Comes-in}
use Rattle.iss_model.proofs.Twins.{core-low, faultless}

pub run-append : {Msg : Type 0} (s : Setup) (F : Formats Msg) (R : Rules) (M : Module Msg) (es fs : List Event) (p : Progress (Held Msg)) →
    run (failure_free s F R M) p (es ++ fs) ≡ run (failure_free s F R M) (run (failure_free s F R M) p es) fs
run-append s F R M [] fs p = refl
run-append s F R M (e ∷ es) fs p = run-append s F R M es fs (run_event_if_open p.ended (failure_free s F R M) p e)

module _ {Msg : Type 0} (s : Setup) (F : Formats Msg) (R : Rules) (M : Module Msg) (o : Premises s F R M) where
  abbrev pub Fits : Held Msg → Type 0
  Fits h = FitsBy s F R M h

  abbrev Arrives : (h : Held Msg) → Fits h → ℕ → NodeEvent → Type 0
  Arrives h ok i event = Comes-in s F R M o h ok i event

  abbrev Posted : List (Message Msg) → Sent → Type 0
  Posted messages p = IsPosted s F R M messages p

  abbrev seen : Held Msg → List (Message Msg) → Cluster Msg
  seen h messages = view s F R M h messages

  same : (w v : Held Msg) → v.net.cores ≡ w.net.cores → Grows s R M w.net v.net
  same w v q = same-net s R M w v q

  -- which packets wait and which cores are held does not matter
  network-fits : (h : Held Msg) (net : Network) → net.packets ≡ h.net.network.packets → Fits h → Fits (with_network h net)
  network-fits h net q ok = record {
    messages = ok.messages;
    posted = λ st p m. ok.posted st p (rw q at m);
    reach = ok.reach;
    root = ok.root;
    cores = ok.cores;
    told = ok.told;
    sent = ok.sent;
    booked = ok.booked;
    hashed = ok.hashed;
    pieces = ok.pieces;
    certified = ok.certified;
    standing = ok.standing;
    voted = ok.voted;
    separate = ok.separate;
  }

  -- what an event leads to
  pub record Leads (h g : Held Msg) : Type 0 where
    pub fits : Fits g
    pub grows : Grows s R M h.net g.net

  leads-same : (h : Held Msg) → Fits h → Leads h h
  leads-same h ok = record { fits = ok; grows = same h h refl }

  leads-trans : (h g k : Held Msg) → Leads h g → (Fits g → Leads g k) → Leads h k
  leads-trans h g k a f = let b = f a.fits in record { fits = b.fits; grows = grows-trans s R M h.net g.net k.net a.grows b.grows }

  leads-at : (h : Held Msg) (ok : Fits h) (i : ℕ) (event : NodeEvent) → Arrives h ok i event → Leads h (at_core s F R M h i event).state
  leads-at h ok i event comes =
      record {
        fits = at-fits s F R M o h ok i event comes;
        grows =
            at-grows s F R M (record { some = o.sound.some_slots; most = o.sound.most }) o.windows h ok.cores i event;
      }

  leads-network : (h : Held Msg) (net : Network) → net.packets ≡ h.net.network.packets → Fits h → Leads h (with_network h net)
  leads-network h net q ok = record { fits = network-fits h net q ok; grows = same h (with_network h net) refl }

  leads-unless : (h : Held Msg) (o : Option End) (d : Upshot (Held Msg)) (more : Held Msg → Upshot (Held Msg)) → Leads h d.state →
      ((g : Held Msg) → Fits g → Leads g (more g).state) → Leads h (unless o d more).state
  leads-unless h None d more ok f = leads-trans h d.state (more d.state).state ok (f d.state)
  leads-unless h (Some end) d more ok f = ok

  -- a packet that holds a message that was sent
  packet-comes : (h : Held Msg) (ok : Fits h) (p : Sent) → (M.stopping ≡ true → Posted ok.messages p) → Arrives h ok p.to (On_packet p.bytes)
  packet-comes h ok p posted = record { low = λ st. (posted st).low_to; legit = λ st k l msg u b. (posted st).carried k l msg u b }

  -- in the crash-stop model each core is a node
  is-node : (i : ℕ) → i < cores_of s → M.stopping ≡ true → i < s.n
  is-node i low st = core-low s (faultless s R M o.sound st) i low

  -- the bytes of a request decode to no message of a module
  request-comes : (h : Held Msg) (ok : Fits h) (i : ℕ) → i < cores_of s → (q : Request) →
      Arrives h ok i (On_packet (F.wrap (record { from = 255; epoch = 0; body = OfRequest q })))
  request-comes h ok i low q = record {
    low = λ st. is-node i low st;
    legit = λ st k l msg u b. absurd (true≢false (sym (ap (λ (x : Body Msg). is_message x) b) ∙
        o.faithful.others (record { from = 255; epoch = 0; body = OfRequest q }) k refl u));
  }

  leads-delivers : (h : Held Msg) → Fits h → (k : ℕ) (o : Option Sent) → nth h.net.network.packets k ≡ o → Leads h (delivered_to (failure_free s F R M) h k o).state
  leads-delivers h ok k None q = leads-same h ok
  leads-delivers h ok k (Some p) q =
      let g : Held Msg = with_network h (settled h.net.network k) in
      leads-trans h g (at_core s F R M g p.to (On_packet p.bytes)).state (leads-network h (settled h.net.network k) refl ok)
      (λ okg. leads-at g okg p.to (On_packet p.bytes) (packet-comes g okg p (λ st. okg.posted st p (nth-in h.net.network.packets k p q))))

  leads-each : (ks : List ℕ) (h : Held Msg) → Fits h → Leads h (delivers_each (failure_free s F R M) ks h).state
  leads-each [] h ok = leads-same h ok
  leads-each (k ∷ ks) h ok =
      let d = delivers (failure_free s F R M) h k in
      leads-unless h d.ended d (delivers_each (failure_free s F R M) ks) (leads-delivers h ok k (nth h.net.network.packets k) refl) (λ g okg. leads-each ks g okg)

  leads-calms : (m : ℕ) (h : Held Msg) → Fits h → Leads h (calms (failure_free s F R M) m h).state
  leads-calms zero h ok = leads-same h ok
  leads-calms (suc m) h ok =
      let d = pumps (failure_free s F R M) h in
      leads-unless h d.ended d (calms (failure_free s F R M) m) (leads-each (due h.net.network) h ok) (λ g okg. leads-calms m g okg)

  leads-loses : (h : Held Msg) → Fits h → (k : ℕ) (o : Option Sent) → Leads h (loses (failure_free s F R M) h k o).state
  leads-loses h ok k None = leads-same h ok
  leads-loses h ok k (Some p) = leads-network h (settled h.net.network k) refl ok

  leads-injects : (h : Held Msg) → Fits h → (i : ℕ) (bytes : List ℕ) (b : Bool) → M.stopping ≡ b →
      Leads h (cond b (done h) (at_core s F R M h i (On_packet bytes))).state
  leads-injects h ok i bytes true q = leads-same h ok
  leads-injects h ok i bytes false q =
      leads-at h ok i (On_packet bytes) (record { low = λ st. absurd (true≢false (sym st ∙ q)); legit = λ st. absurd (true≢false (sym st ∙ q)) })

  pub leads-happens : (h : Held Msg) → Fits h → (e : Event) → IsAtCore s e → Leads h (apply_event (failure_free s F R M) h e).state
  leads-happens h ok (Event_request i client number payload) low =
      leads-at h ok i (On_packet (F.wrap (record { from = 255; epoch = 0; body = OfRequest (request_of s client number payload) })))
      (request-comes h ok i low (request_of s client number payload))
  leads-happens h ok (Propose i) low = leads-at h ok i On_propose (record { low = is-node i low; legit = λ st. tt })
  leads-happens h ok (Event_timeout i l) low = leads-at h ok i (On_timeout l) (record { low = is-node i low; legit = λ st. tt })
  leads-happens h ok (Ask i peer) low = leads-at h ok i (On_ask peer) (record { low = is-node i low; legit = λ st. tt })
  leads-happens h ok (Deliver k) low = leads-delivers h ok k (nth h.net.network.packets k) refl
  leads-happens h ok (Lose k) low = leads-loses h ok k (nth h.net.network.packets k)
  leads-happens h ok Pump low = leads-each (due h.net.network) h ok
  leads-happens h ok (Calm m) low = leads-calms m h ok
  leads-happens h ok (Hold i) low = leads-network h _ refl ok
  leads-happens h ok (Free i) low = leads-network h _ refl ok
  leads-happens h ok (Event_drop i) low = leads-network h _ refl ok
  leads-happens h ok (Restart i) low = leads-same h ok
  leads-happens h ok (Crash i calls) low = leads-same h ok
  leads-happens h ok (Bytes i bytes) low = leads-injects h ok i bytes M.stopping refl

  leads-further : (o : Option (ℕ × End)) (p : Progress (Held Msg)) → Fits p.state → (e : Event) → IsAtCore s e → Leads p.state (run_event_if_open o (failure_free s F R M) p e).state
  leads-further None p ok e low = leads-happens p.state ok e low
  leads-further (Some end) p ok e low = leads-same p.state ok

  leads-run : (es : List Event) (p : Progress (Held Msg)) → Fits p.state → AreAtCores s es → Leads p.state (run (failure_free s F R M) p es).state
  leads-run [] p ok low = leads-same p.state ok
  leads-run (e ∷ es) p ok low =
      let g = run_event_if_open p.ended (failure_free s F R M) p e in
      leads-trans p.state g.state (run (failure_free s F R M) g es).state (leads-further p.ended p ok e low.0) (λ okg. leads-run es g okg low.1)

  start-fits : Fits (begin_run s).state
  start-fits = record {
    messages = [];
    posted = λ st p m. absurd m;
    reach = begin (record { pasts = λ j ok. refl; messages = λ k h. h; book = λ x h. h; root = inl refl });
    root = inl refl;
    cores = λ j. idle-ready R M (node_of s j);
    told = λ j x m. absurd m;
    sent = λ st j x m. absurd m;
    booked = λ j ok e l item m. absurd m;
    hashed = λ j ok x m. absurd (subst (λ (log : List Value). In x (chain_strings (scheme_of s) log)) (newborn-log R M j) m);
    pieces = λ j ok p m. absurd m;
    certified = λ j ok. record { votes = λ v m. absurd m; certs = λ x m. absurd m };
    standing = λ j ok e a q m. absurd m;
    voted = λ j ok e lt. absurd (omega (arith, lt));
    separate = λ a b ia ib q. elim ia [ inl x ↦ elim ib [ inl y ↦ x ∙ sym y | inr none ↦ absurd none ] | inr none ↦ absurd none ];
  }

  -- the invariant holds after any events, until the run stops
  pub run-fits : (events : List Event) → AreAtCores s events → Fits (run (failure_free s F R M) (begin_run s) events).state
  run-fits events low = (leads-run events (begin_run s) start-fits low).fits

  -- more events extend logs
  pub run-grows : (events more : List Event) → AreAtCores s events → AreAtCores s more →
      Grows s R M (run (failure_free s F R M) (begin_run s) events).state.net (run (failure_free s F R M) (begin_run s) (events ++ more)).state.net
  run-grows events more low low_more =
      let p : Progress (Held Msg) = run (failure_free s F R M) (begin_run s) events in
      subst (λ (q : Progress (Held Msg)). Grows s R M p.state.net q.state.net) (sym (run-append s F R M events more (begin_run s)))
      (leads-run more p (run-fits events low) low_more).grows
