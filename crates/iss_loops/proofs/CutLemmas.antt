-- A loop that is cut short: its state comes of frames that were taken and of events that the node took.
use Rattle.std.proofs.Common.{◌≡◌, ◌∙◌, ℕ, zero, suc, ◌+◌, ◌<◌, ◌≤◌, ◌==◌, nat_lt, Bool, true, false, List, [], ◌∷◌, ◌++◌, length, get_or, drop, Option, Some, None, Result, Ok, Err, IsErrOf, if◌then◌else◌, refl, ap, sym, subst, arith}
use Rattle.std.proofs.lemmas.List.{drop_all, drop_more}
use Rattle.iss_links.specs.Ends.{End, after_take, end_at}
use Rattle.iss_links.specs.Frames.{Fragment}
use Rattle.iss_links.specs.Reassembly.{completed_by}
use Rattle.iss_loops.proofs.NodeLemmas.{Comes}
use Rattle.iss_loops.specs.Loop.{packet_at, packet_of, packet_or, peer_of}
use Rattle.iss_loops.specs.NodeBehavior.{FailsAt, NodeBehavior}
use Rattle.iss_loops.specs.NodeLoop.{GrowsTo, HasGone, HasLooped, HasSent, IsAt, IsCut, NodeState, after_moves, arrives, asks, copies, begins, moves_on, node_loop_of, proposes, receives, rests, send_each, send_to, takes, times_out, turn, turns, wakes}
use Rattle.iss_loops.specs.declared.node_loop.NodeProgress.{NodeProgress}
use Rattle.iss_loops.specs.Errors.{of_loop, of_step}
use Rattle.iss_loops.specs.declared.errors.LoopError.{LoopError}
use Rattle.iss_loops.specs.declared.errors.LoopError.TheVariants.{LinksFault, NoMemory}
use Rattle.iss_loops.specs.declared.errors.NodeError.{NodeError}
use Rattle.iss_loops.specs.declared.errors.NodeError.TheVariants.{DiskFault}
use Rattle.iss_loops.specs.declared.node.StepError.{StepError}
use Rattle.iss_loops.specs.declared.node.StepError.TheVariants.{DiskFault as Step_disk_fault, NoMemory as Step_no_memory}
use Rattle.iss_request.specs.declared.ids.NodeId.{NodeId}
use Rattle.iss_rules.specs.declared.events.NodeEvent.{NodeEvent}
use Rattle.iss_rules.specs.declared.events.NodeEvent.TheVariants.{Packet, Propose, Timeout, AskFrom}
use Rattle.iss_sb.specs.declared.effects.To.{To}

abbrev still : Bool → ℕ → NodeState → NodeState
still i t w = record w { idle = i; idle_turns = t }

module _ (B : NodeBehavior) where
  -- ---- moves do not look at the idle turns

  send-still : (sends : List (To × List ℕ)) (i : Bool) (t : ℕ) (w : NodeState) → send_each B sends (still i t w) ≡ still i t (send_each B sends w)
  send-still [] i t w = refl
  send-still (s ∷ sends) i t w = send-still sends i t (record w { count = w.count + copies B.setup.n s.0; ends = send_to B.setup.n B.me w.count s.0 s.1 w.ends })

  take-still : (e : NodeEvent) (i : Bool) (t : ℕ) (w : NodeState) → takes B e (still i t w) ≡ still i t (takes B e w)
  take-still e i t w = go (B.accepts w.events e)
    where
      go : (b : Bool) → (if b then send_each B (B.sends w.events e) (record (still i t w) { events = w.events ++ e ∷ [] }) else still i t w)
          ≡ still i t (if b then send_each B (B.sends w.events e) (record w { events = w.events ++ e ∷ [] }) else w)
      go true = send-still (B.sends w.events e) i t (record w { events = w.events ++ e ∷ [] })
      go false = refl

  move-still : (move : Option NodeEvent) (i : Bool) (t : ℕ) (w : NodeState) → moves_on B move (still i t w) ≡ still i t (moves_on B move w)
  move-still None i t w = refl
  move-still (Some e) i t w = take-still e i t w

  moves-still : (moves : List (Option NodeEvent)) (i : Bool) (t : ℕ) (w : NodeState) → after_moves B moves (still i t w) ≡ still i t (after_moves B moves w)
  moves-still [] i t w = refl
  moves-still (m ∷ ms) i t w = ap (λ (x : NodeState). after_moves B ms x) (move-still m i t w) ∙ moves-still ms i t (moves_on B m w)

  moves-append : (ms ns : List (Option NodeEvent)) (w : NodeState) → after_moves B (ms ++ ns) w ≡ after_moves B ns (after_moves B ms w)
  moves-append [] ns w = refl
  moves-append (m ∷ ms) ns w = moves-append ms ns (moves_on B m w)

  -- ---- what moves reach

  pub record Reaches (w later : NodeState) : Type 0 where
    pub moves : List (Option NodeEvent)
    pub idle : Bool
    pub idle_turns : ℕ
    pub is : later ≡ still idle idle_turns (after_moves B moves w)

  pub stays : (w : NodeState) → Reaches w w
  stays w = record { moves = []; idle = w.idle; idle_turns = w.idle_turns; is = refl }

  pub rested : (i : Bool) (t : ℕ) (w : NodeState) → Reaches w (still i t w)
  rested i t w = record { moves = []; idle = i; idle_turns = t; is = refl }

  pub goes-on : (w v u : NodeState) → Reaches w v → Reaches v u → Reaches w u
  goes-on w v u a b =
      let x : NodeState = after_moves B a.moves w in
      let e1 : still b.idle b.idle_turns (after_moves B b.moves v) ≡ still b.idle b.idle_turns (after_moves B b.moves (still a.idle a.idle_turns x)) =
      ap (λ (y : NodeState). still b.idle b.idle_turns (after_moves B b.moves y)) a.is in
      let e2 : still b.idle b.idle_turns (after_moves B b.moves (still a.idle a.idle_turns x)) ≡ still b.idle b.idle_turns (after_moves B b.moves x) =
      ap (λ (y : NodeState). still b.idle b.idle_turns y) (moves-still b.moves a.idle a.idle_turns x) in
      let e3 : still b.idle b.idle_turns (after_moves B b.moves x) ≡ still b.idle b.idle_turns (after_moves B (a.moves ++ b.moves) w) =
      ap (λ (y : NodeState). still b.idle b.idle_turns y) (sym (moves-append a.moves b.moves w)) in
      record { moves = a.moves ++ b.moves; idle = b.idle; idle_turns = b.idle_turns; is = b.is ∙ e1 ∙ e2 ∙ e3 }

  pub takes-reaches : (e : NodeEvent) (w : NodeState) → Reaches w (takes B e w)
  takes-reaches e w = record { moves = Some e ∷ []; idle = (takes B e w).idle; idle_turns = (takes B e w).idle_turns; is = refl }

  pub frames-reach : (most : ℕ) (w : NodeState) → Reaches w (record w { ends = (packet_at B.me most w.ends).1 })
  frames-reach zero w = stays w
  frames-reach (suc n) w = go (end_at w.ends B.me).waiting (frames-reach n (record w { ends = after_take B.me w.ends }))
    where
      after : NodeState
      after = record w { ends = after_take B.me w.ends }

      later : Option (List ℕ) × List End
      later = packet_at B.me n (after_take B.me w.ends)

      here : Reaches w after
      here = record { moves = None ∷ []; idle = w.idle; idle_turns = w.idle_turns; is = refl }

      by : (o : Option (List ℕ)) → Reaches after (record after { ends = later.1 }) → Reaches w (record w { ends = (packet_or o (after_take B.me w.ends) later).1 })
      by (Some p) rest = here
      by None rest = goes-on w after (record after { ends = later.1 }) here rest

      go : (ws : List Fragment) → Reaches after (record after { ends = later.1 })
          → Reaches w (record w { ends = (packet_of ws (end_at w.ends B.me).partials (after_take B.me w.ends) later).1 })
      go [] rest = here
      go (f ∷ fs) rest = by (completed_by f (end_at w.ends B.me).partials) rest

  pub proposes-reaches : (w : NodeState) → Reaches w (proposes B w)
  proposes-reaches w = go (B.castable w.events)
    where
      go : (b : Bool) → Reaches w (if b then takes B Propose (record w { idle = false }) else w)
      go true = goes-on w (still false w.idle_turns w) _ (rested false w.idle_turns w) (takes-reaches Propose (still false w.idle_turns w))
      go false = stays w

  arrives-reaches : (o : Option (List ℕ)) (w : NodeState) → Reaches w (arrives B o w)
  arrives-reaches None w = stays w
  arrives-reaches (Some bytes) w = goes-on w (still false w.idle_turns w) _ (rested false w.idle_turns w) (takes-reaches (Packet bytes) (still false w.idle_turns w))

  pub receives-reaches : (most : ℕ) (w : NodeState) → Reaches w (receives B most w)
  receives-reaches most w =
      let found = packet_at B.me most w.ends in
      goes-on w (record w { ends = found.1 }) (receives B most w) (frames-reach most w) (arrives-reaches found.0 (record w { ends = found.1 }))

  pub times-out-reaches : (leaders : List NodeId) (w : NodeState) → Reaches w (times_out B leaders w)
  times-out-reaches [] w = stays w
  times-out-reaches (l ∷ ls) w = goes-on w (takes B (Timeout l) w) _ (takes-reaches (Timeout l) w) (times-out-reaches ls (takes B (Timeout l) w))

  pub asks-reaches : (w : NodeState) → Reaches w (asks B w)
  asks-reaches w = go (nat_lt 1 B.setup.n)
    where
      go : (b : Bool) → Reaches w (if b then takes B (AskFrom (peer_of B.setup.n B.me)) w else w)
      go true = takes-reaches (AskFrom (peer_of B.setup.n B.me)) w
      go false = stays w

  pub wakes-reaches : (w : NodeState) → Reaches w (wakes B w)
  wakes-reaches w = goes-on w (times_out B (B.unfilled w.events) w) _ (times-out-reaches (B.unfilled w.events) w) (asks-reaches (times_out B (B.unfilled w.events) w))

  pub rests-reaches : (patience : ℕ) (w : NodeState) → Reaches w (rests B patience w)
  rests-reaches patience w = go w.idle
    where
      up : (b : Bool) → Reaches w (if b then wakes B (record w { idle_turns = 0 }) else record w { idle_turns = w.idle_turns + 1 })
      up true = goes-on w (still w.idle 0 w) _ (rested w.idle 0 w) (wakes-reaches (still w.idle 0 w))
      up false = rested w.idle (w.idle_turns + 1) w

      go : (b : Bool) → Reaches w (if b then (if w.idle_turns + 1 == patience then wakes B (record w { idle_turns = 0 }) else record w { idle_turns = w.idle_turns + 1 }) else record w { idle_turns = 0 })
      go true = up (w.idle_turns + 1 == patience)
      go false = rested w.idle 0 w

  pub turn-reaches : (most patience : ℕ) (w : NodeState) → Reaches w (turn B most patience w)
  turn-reaches most patience w =
      let w0 : NodeState = still true w.idle_turns w in
      let w1 : NodeState = proposes B w0 in
      let w2 : NodeState = receives B most w1 in
      goes-on w w0 _ (rested true w.idle_turns w) (goes-on w0 w1 _ (proposes-reaches w0) (goes-on w1 w2 _ (receives-reaches most w1) (rests-reaches patience w2)))

  -- ---- a cut

  has-sent : (w v : NodeState) (kept : List NodeEvent) (ends : Option (List End)) → Reaches w v → HasSent B v kept ends → HasSent B w kept ends
  has-sent w v kept ends a h =
      let x : NodeState = after_moves B a.moves w in
      let e1 : after_moves B h.moves v ≡ after_moves B h.moves (still a.idle a.idle_turns x) = ap (λ (y : NodeState). after_moves B h.moves y) a.is in
      let e2 : after_moves B h.moves (still a.idle a.idle_turns x) ≡ still a.idle a.idle_turns (after_moves B h.moves x) = moves-still h.moves a.idle a.idle_turns x in
      let e3 : after_moves B h.moves x ≡ after_moves B (a.moves ++ h.moves) w = sym (moves-append a.moves h.moves w) in
      record {
        moves = a.moves ++ h.moves;
        events_are = h.events_are ∙ ap (λ (y : NodeState). y.events) (e1 ∙ e2) ∙ ap (λ (y : NodeState). y.events) e3;
        ends_are = h.ends_are ∙ ap (λ (y : NodeState). Some y.ends) (e1 ∙ e2) ∙ ap (λ (y : NodeState). Some y.ends) e3;
      }

  -- where a part of the loop is, and that moves lead there
  pub record Gone (events : List NodeEvent) (ends : Option (List End)) (progress : NodeProgress) (from : NodeState) : Type 0 where
    pub now : NodeState
    pub at : IsAt events ends progress now
    pub reach : Reaches from now

  -- what is cut behind a part of the loop is cut behind its start
  pub cut-behind : (leaves : List NodeEvent → NodeEvent → Type 0) (events : List NodeEvent) (has : List NodeEvent → Type 0) (ends0 ends1 ends2 : Option (List End)) (progress0 progress1 : NodeProgress) (F : NodeState → NodeState)
      → ((w : NodeState) → Reaches w (F w)) → HasGone events has ends0 ends1 progress0 progress1 F → ((es : List NodeEvent) → has es → IsCut B leaves es ends1 progress1 ends2) → IsCut B leaves events ends0 progress0 ends2
  cut-behind leaves events has ends0 ends1 ends2 progress0 progress1 F reach h cut =
      let c = cut h.later h.there in
      record {
        kept = c.kept;
        failed = c.failed;
        fails = c.fails;
        grown = λ k e g. c.grown k e (h.grown k e g);
        sent = λ w at. has-sent w (F w) c.kept ends2 (reach w) (c.sent (F w) (h.goes w at));
      }

  -- A part of the loop has led here. What is left of it leads to the whole.
  pub record IsPassing (events : List NodeEvent) (has : List NodeEvent → Type 0) (ends0 ends : Option (List End)) (progress0 progress : NodeProgress) (rest whole : NodeState → NodeState) : Type 0 where
    pub later : List NodeEvent
    pub there : has later
    pub grown : GrowsTo events later
    pub comes : (w : NodeState) → IsAt events ends0 progress0 w → Comes later ends progress rest (whole w)
    pub gone : (w : NodeState) → IsAt events ends0 progress0 w → Gone later ends progress w

  -- what is cut behind a part of the loop is cut behind its start
  pub cut-passing : (leaves : List NodeEvent → NodeEvent → Type 0) (events : List NodeEvent) (has : List NodeEvent → Type 0) (ends0 ends1 ends2 : Option (List End)) (progress0 progress1 : NodeProgress) (rest whole : NodeState → NodeState)
      → IsPassing events has ends0 ends1 progress0 progress1 rest whole → ((es : List NodeEvent) → has es → IsCut B leaves es ends1 progress1 ends2) → IsCut B leaves events ends0 progress0 ends2
  cut-passing leaves events has ends0 ends1 ends2 progress0 progress1 rest whole u cut =
      let c = cut u.later u.there in
      record {
        kept = c.kept;
        failed = c.failed;
        fails = c.fails;
        grown = λ k e g. c.grown k e (u.grown k e g);
        sent = λ w at. let there = u.gone w at in has-sent w there.now c.kept ends2 there.reach (c.sent there.now there.at);
      }

  -- it begins
  pub passing-first : (events : List NodeEvent) (has : List NodeEvent → Type 0) (ends : Option (List End)) (progress : NodeProgress) (whole : NodeState → NodeState) → has events → IsPassing events has ends ends progress progress whole whole
  passing-first events has ends progress whole there = record {
    later = events;
    there = there;
    grown = λ k e h. h;
    comes = λ w at. record { now = w; at = at; same = refl };
    gone = λ w at. record { now = w; at = at; reach = stays w };
  }

  -- one part more
  pub passing-more : (events : List NodeEvent) (has1 has2 : List NodeEvent → Type 0) (ends0 ends1 ends2 : Option (List End)) (progress0 progress1 progress2 : NodeProgress) (rest rest2 whole whole2 F : NodeState → NodeState)
      → ((w : NodeState) → Reaches w (F w)) → IsPassing events has1 ends0 ends1 progress0 progress1 rest whole → ((es : List NodeEvent) → has1 es → HasGone es has2 ends1 ends2 progress1 progress2 F)
      → ((v w : NodeState) → rest v ≡ whole w → rest2 (F v) ≡ whole2 w) → IsPassing events has2 ends0 ends2 progress0 progress2 rest2 whole2
  passing-more events has1 has2 ends0 ends1 ends2 progress0 progress1 progress2 rest rest2 whole whole2 F reach p more same =
      let h = more p.later p.there in
      record {
        later = h.later;
        there = h.there;
        grown = λ k e g. h.grown k e (p.grown k e g);
        comes = λ w at. let c = p.comes w at in record { now = F c.now; at = h.goes c.now c.at; same = same c.now w c.same };
        gone = λ w at. let g = p.gone w at in record { now = F g.now; at = h.goes g.now g.at; reach = goes-on w g.now (F g.now) g.reach (reach g.now) };
      }

  -- the disk fails at an event
  pub cut-here : (leaves : List NodeEvent → NodeEvent → Type 0) (event : NodeEvent) (events : List NodeEvent) (ends : Option (List End)) (progress : NodeProgress)
      → FailsAt B leaves events event → IsCut B leaves events ends progress ends
  cut-here leaves event events ends progress fails = record {
    kept = events;
    failed = event;
    fails = fails;
    grown = λ k e h. h;
    sent = λ w at. record { moves = []; events_are = at.events_are; ends_are = at.ends_are };
  }

  -- the code is idle or not
  pub cut-idle : (leaves : List NodeEvent → NodeEvent → Type 0) (events : List NodeEvent) (ends ends2 : Option (List End)) (progress after : NodeProgress) → after.count ≡ progress.count
      → IsCut B leaves events ends after ends2 → IsCut B leaves events ends progress ends2
  cut-idle leaves events ends ends2 progress after same c = record {
    kept = c.kept;
    failed = c.failed;
    fails = c.fails;
    grown = c.grown;
    sent = λ w at. has-sent w (still after.idle after.idle_turns w) c.kept ends2 (rested after.idle after.idle_turns w)
        (c.sent (still after.idle after.idle_turns w) (record { events_are = at.events_are; ends_are = at.ends_are; count = same ∙ at.count; idle = refl; idle_turns = refl }));
  }

  -- a packet arrived
  pub cut-received : (leaves : List NodeEvent → NodeEvent → Type 0) (me most : ℕ) (events : List NodeEvent) (ends ends1 ends2 : Option (List End)) (progress after : NodeProgress) → B.me ≡ me → after ≡ record progress { idle = false }
      → ((es : List End) → ends ≡ Some es → ends1 ≡ Some (packet_at me most es).1)
      → IsCut B leaves events ends1 after ends2 → IsCut B leaves events ends progress ends2
  cut-received leaves me most events ends ends1 ends2 progress after mine is left c = record {
    kept = c.kept;
    failed = c.failed;
    fails = c.fails;
    grown = c.grown;
    sent = λ w at.
        let w1 : NodeState = record w { ends = (packet_at B.me most w.ends).1 } in
        has-sent w (still false w.idle_turns w1) c.kept ends2 (goes-on w w1 (still false w.idle_turns w1) (frames-reach most w) (rested false w.idle_turns w1))
        (c.sent (still false w.idle_turns w1) (record {
          events_are = at.events_are;
          ends_are = left w.ends at.ends_are ∙ ap (λ (m : ℕ). Some (packet_at m most w.ends).1) (sym mine);
          count = ap (λ (x : NodeProgress). x.count) is ∙ at.count;
          idle = ap (λ (x : NodeProgress). x.idle) is;
          idle_turns = ap (λ (x : NodeProgress). x.idle_turns) is ∙ at.idle_turns;
        }));
  }

-- ---- loops

-- one leader more
pub times-out-on : (B : NodeBehavior) (leaders : List NodeId) (i : ℕ) (d : NodeId) (events : List NodeEvent) (has1 has2 : List NodeEvent → Type 0) (ends0 ends1 ends2 : Option (List End)) (progress0 progress1 progress2 : NodeProgress) → i < length leaders
    → IsPassing B events has1 ends0 ends1 progress0 progress1 (times_out B (drop i leaders)) (times_out B leaders)
    → ((es : List NodeEvent) → has1 es → HasGone es has2 ends1 ends2 progress1 progress2 (takes B (Timeout (get_or leaders i d)))) → IsPassing B events has2 ends0 ends2 progress0 progress2 (times_out B (drop (i + 1) leaders)) (times_out B leaders)
times-out-on B leaders i d events has1 has2 ends0 ends1 ends2 progress0 progress1 progress2 within p more =
    passing-more B events has1 has2 ends0 ends1 ends2 progress0 progress1 progress2 (times_out B (drop i leaders)) (times_out B (drop (i + 1) leaders)) (times_out B leaders) (times_out B leaders) (takes B (Timeout (get_or leaders i d)))
    (takes-reaches B (Timeout (get_or leaders i d))) p more (λ v w same. sym (ap (λ (ls : List NodeId). times_out B ls v) (drop_more leaders i d within)) ∙ same)

-- no leader is left
pub timed-out : (B : NodeBehavior) (leaders : List NodeId) (i : ℕ) (events : List NodeEvent) (has : List NodeEvent → Type 0) (ends0 ends : Option (List End)) (progress0 progress : NodeProgress) → length leaders ≤ i
    → IsPassing B events has ends0 ends progress0 progress (times_out B (drop i leaders)) (times_out B leaders) → HasGone events has ends0 ends progress0 progress (times_out B leaders)
timed-out B leaders i events has ends0 ends progress0 progress all p = record {
  later = p.later;
  there = p.there;
  grown = p.grown;
  goes = λ w at.
      let c = p.comes w at in
      let is : c.now ≡ times_out B leaders w = ap (λ (ls : List NodeId). times_out B ls c.now) (sym (drop_all i leaders all)) ∙ c.same in
      subst (λ (v : NodeState). IsAt p.later ends progress v) is c.at;
}

-- one turn more
pub turns-on : (B : NodeBehavior) (frames patience n : ℕ) (events : List NodeEvent) (has1 has2 : List NodeEvent → Type 0) (ends0 ends1 ends2 : Option (List End)) (progress0 progress1 progress2 : NodeProgress)
    → IsPassing B events has1 ends0 ends1 progress0 progress1 (λ v. v) (turns B frames patience n)
    → ((es : List NodeEvent) → has1 es → HasGone es has2 ends1 ends2 progress1 progress2 (turn B frames patience)) → IsPassing B events has2 ends0 ends2 progress0 progress2 (λ v. v) (turns B frames patience (n + 1))
turns-on B frames patience n events has1 has2 ends0 ends1 ends2 progress0 progress1 progress2 p more =
    let next : suc n ≡ n + 1 = omega arith in
    passing-more B events has1 has2 ends0 ends1 ends2 progress0 progress1 progress2 (λ v. v) (λ v. v) (turns B frames patience n) (turns B frames patience (n + 1)) (turn B frames patience)
    (turn-reaches B frames patience) p more (λ v w same. ap (turn B frames patience) same ∙ ap (λ (k : ℕ). turns B frames patience k w) next)

-- all turns are over
pub turned-all : (B : NodeBehavior) (frames patience n : ℕ) (events : List NodeEvent) (has : List NodeEvent → Type 0) (ends0 ends : Option (List End)) (progress : NodeProgress)
    → IsPassing B events has ends0 ends (record { count = 0; idle = true; idle_turns = 0 }) progress (λ v. v) (turns B frames patience n) → HasLooped events has ends0 ends (node_loop_of B frames patience n events)
turned-all B frames patience n events has ends0 ends progress p = record {
  later = p.later;
  there = p.there;
  grown = p.grown;
  loops = λ told is.
      let c = p.comes (begins events told) (record { events_are = refl; ends_are = is; count = refl; idle = refl; idle_turns = refl }) in
      record { events_are = c.at.events_are ∙ ap (λ (w : NodeState). w.events) c.same; ends_are = c.at.ends_are ∙ ap (λ (w : NodeState). Some w.ends) c.same };
}

-- ---- errors that are passed on

abbrev err-or : {T E : Type 0} → Result T E → E → E
err-or (Ok x) e = e
err-or (Err x) e = x

pub passed : {T U E : Type 0} (P : Type 0) (r : Result T E) (x e : E) → r ≡ Err x → (IsErrOf r e → P) → IsErrOf {T = U} (Err x) e → P
passed P r x e is h q = h (is ∙ ap (λ z. Err z) (ap (λ z. err-or z x) q))

of-step-fault : (e : StepError) → of_step e ≡ DiskFault → e ≡ Step_disk_fault
of-step-fault Step_disk_fault is = refl
of-step-fault Step_no_memory is = absurd (cc)

of-loop-fault : (e : LoopError) → of_loop e ≡ DiskFault → ⊥
of-loop-fault LinksFault is = absurd (cc)
of-loop-fault NoMemory is = absurd (cc)

abbrev node-err-or : {T : Type 0} → Result T NodeError → NodeError → NodeError
node-err-or (Ok x) e = e
node-err-or (Err x) e = x

err-is : {T : Type 0} (x e : NodeError) → IsErrOf {T = T} (Err x) e → x ≡ e
err-is x e q = ap (λ r. node-err-or r x) q

-- an error of a node's step, and one of the links
pub step-failed : {T U : Type 0} (r : Result T StepError) (x : StepError) (e : NodeError) → r ≡ Err x → e ≡ of_step x → IsErrOf {T = U} (Err e) DiskFault → IsErrOf r Step_disk_fault
step-failed r x e is from q = is ∙ ap (λ z. Err z) (of-step-fault x (sym from ∙ err-is e DiskFault q))

pub links-failed : {U : Type 0} (P : Type 0) (x : LoopError) (e : NodeError) → e ≡ of_loop x → IsErrOf {T = U} (Err e) DiskFault → P
links-failed P x e from q = absurd (of-loop-fault x (sym from ∙ err-is e DiskFault q))
