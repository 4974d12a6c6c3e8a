-- A node's loop, step by step.
use Rattle.std.proofs.Common.{◌≡◌, ◌≢◌, ◌∙◌, inl, inr, ℕ, zero, suc, ◌+◌, ◌<◌, ◌≤◌, ◌==◌, nat_lt, List, [], ◌∷◌, ◌++◌, true, false, length, get_or, drop, Option, None, Some, refl, ap, sym, subst, arith}
use Rattle.std.proofs.lemmas.Bool.{eq-eqb, le-ltb, lt-ltb, ne_eqb}
use Rattle.std.proofs.lemmas.List.{drop_more}
use Rattle.iss_rules.specs.declared.events.NodeEvent.{NodeEvent}
use Rattle.iss_rules.specs.declared.events.NodeEvent.TheVariants.{AskFrom, Packet, Propose}
use Rattle.iss_links.specs.Ends.{End}
use Rattle.iss_loops.specs.Loop.{packet_at, peer_of}
use Rattle.iss_request.specs.declared.ids.NodeId.{NodeId}
use Rattle.iss_loops.specs.NodeBehavior.{AreOfNewest, IsOpen, IsStep, NodeBehavior}
use Rattle.iss_loops.specs.declared.node.NodeStep.TheVariants.{Dropped, Taken}
use Rattle.iss_loops.specs.NodeLoop.{NodeState, arrives, asks, copies, takes, proposes, receives, rests, send_each, send_to, times_out, turn, wakes}
use Rattle.iss_loops.specs.NodeLoop.{Goes, GrowsTo, HasGone, IsAt}
use Rattle.iss_loops.specs.declared.node_loop.NodeProgress.{NodeProgress}
use Rattle.iss_base.specs.Lists.{In}
use Rattle.iss_sb.specs.Calls.{AreToNodes, IsToNode}
use Rattle.iss_sb.specs.declared.effects.To.{To}

-- the loop has come to a state from which the rest leads to the same as from the start
pub record Comes (events : List NodeEvent) (ends : Option (List End)) (progress : NodeProgress) (rest : NodeState → NodeState) (whole : NodeState) : Type 0 where
  pub now : NodeState
  pub at : IsAt events ends progress now
  pub same : rest now ≡ whole

pub sends-more : (B : NodeBehavior) (nodes me : ℕ) (sends : List (To × List ℕ)) (i : ℕ) (s : To × List ℕ) (events : List NodeEvent) (ends ends2 : Option (List End)) (progress progress2 : NodeProgress) (whole : NodeState) → B.setup.n ≡ nodes → B.me ≡ me → i < length sends → s ≡ get_or sends i s
    → Comes events ends progress (send_each B (drop i sends)) whole
    → ((es : List End) → ends ≡ Some es → ends2 ≡ Some (send_to nodes me progress.count s.0 s.1 es)) → progress2 ≡ record progress { count = progress.count + copies nodes s.0 }
    → Comes events ends2 progress2 (send_each B (drop (i + 1) sends)) whole
sends-more B nodes me sends i s events ends ends2 progress progress2 whole is is2 within e c h t =
    record {
      now = record c.now { count = c.now.count + copies B.setup.n s.0; ends = send_to B.setup.n B.me c.now.count s.0 s.1 c.now.ends };
      at = record {
        events_are = c.at.events_are;
        ends_are = rw (is, is2, ← c.at.count) (h c.now.ends c.at.ends_are);
        count = rw (is, ← c.at.count) (ap (λ (x : NodeProgress). x.count) t);
        idle = ap (λ (x : NodeProgress). x.idle) t ∙ c.at.idle;
        idle_turns = ap (λ (x : NodeProgress). x.idle_turns) t ∙ c.at.idle_turns;
      };
      same = sym (ap (λ (xs : List (To × List ℕ)). send_each B xs c.now) (drop_more sends i s within ∙ ap (λ (x : To × List ℕ). x ∷ drop (i + 1) sends) (sym e))) ∙ c.same;
    }

-- ---- events that stay at their places

pub grows-same : (events : List NodeEvent) → GrowsTo events events
grows-same events k e h = h

none-some : {A : Type 0} (x : A) (P : Type 0) → None ≡ Some x → P
none-some x P h = absurd (cc)

pub grows-more : (events : List NodeEvent) (event : NodeEvent) → GrowsTo events (events ++ event ∷ [])
grows-more [] event k e h = none-some e _ h
grows-more (x ∷ xs) event zero e h = h
grows-more (x ∷ xs) event (suc k) e h = grows-more xs event k e h

-- a node that need not be reopened need not be after a call
pub open-on : (before now : NodeBehavior → List NodeEvent → Type 0) (ends ends_now : Option (List End)) (progress progress_now : NodeProgress) (F : NodeBehavior → NodeState → NodeState)
    → IsOpen before → Goes before now ends ends_now progress progress_now F → IsOpen now
open-on before now ends ends_now progress progress_now F o goes = let h = goes o.0 o.1 o.2 in (o.0, h.later, h.there)

-- a call that leaves the events as they are
pub gone-still : (events : List NodeEvent) (has : List NodeEvent → Type 0) (ends ends_now : Option (List End)) (progress progress_now : NodeProgress) (F : NodeState → NodeState) → has events
    → ((w : NodeState) → IsAt events ends progress w → IsAt events ends_now progress_now (F w)) → HasGone events has ends ends_now progress progress_now F
gone-still events has ends ends_now progress progress_now F there goes = record { later = events; there = there; grown = grows-same events; goes = goes }

-- an event that was taken, or dropped
pub taken-gone : (B : NodeBehavior) (event : NodeEvent) (events : List NodeEvent) (has : List NodeEvent → Type 0) (ends ends2 : Option (List End)) (progress progress2 : NodeProgress) (sends : List (To × List ℕ)) → IsStep B events event has (Taken sends)
    → ((es : List NodeEvent) → has es → (w : NodeState) → IsAt es ends progress w → IsAt es ends2 progress2 (send_each B sends w)) → HasGone events has ends ends2 progress progress2 (takes B event)
taken-gone B event events has ends ends2 progress progress2 sends was h = record { later = events ++ event ∷ []; there = was.1; grown = grows-more events event; goes = goes }
  where
    goes : (w : NodeState) → IsAt events ends progress w → IsAt (events ++ event ∷ []) ends2 progress2 (takes B event w)
    goes w at =
        let accepts : B.accepts w.events event ≡ true = ap (λ (es : List NodeEvent). B.accepts es event) (sym at.events_are) ∙ was.0 in
        let these : sends ≡ B.sends w.events event = was.2 ∙ ap (λ (es : List NodeEvent). B.sends es event) at.events_are in
        let more : events ++ event ∷ [] ≡ w.events ++ event ∷ [] = ap (λ (es : List NodeEvent). es ++ event ∷ []) at.events_are in
        let e : takes B event w ≡ send_each B sends (record w { events = w.events ++ event ∷ [] }) = rw (accepts, these) refl in
        (let Q : NodeState → Type 0 = λ x. IsAt (events ++ event ∷ []) ends2 progress2 x in subst Q (sym e)
        (h (events ++ event ∷ []) was.1 (record w { events = w.events ++ event ∷ [] }) (record { events_are = more; ends_are = at.ends_are; count = at.count; idle = at.idle; idle_turns = at.idle_turns })))

pub dropped-gone : (B : NodeBehavior) (event : NodeEvent) (events : List NodeEvent) (has : List NodeEvent → Type 0) (ends : Option (List End)) (progress : NodeProgress) → IsStep B events event has Dropped
    → HasGone events has ends ends progress progress (takes B event)
dropped-gone B event events has ends progress was = gone-still events has ends ends progress progress (takes B event) was.1 goes
  where
    goes : (w : NodeState) → IsAt events ends progress w → IsAt events ends progress (takes B event w)
    goes w at =
        let drops : B.accepts w.events event ≡ false = ap (λ (es : List NodeEvent). B.accepts es event) (sym at.events_are) ∙ was.0 in
        let e : takes B event w ≡ w = rw drops refl in
        (let Q : NodeState → Type 0 = λ x. IsAt events ends progress x in subst Q (sym e) at)

-- the node proposes
pub proposed : (B : NodeBehavior) (events events2 : List NodeEvent) (ends ends2 : Option (List End)) (progress after progress2 : NodeProgress) → B.castable events ≡ true → after ≡ record progress { idle = false }
    → ((w : NodeState) → IsAt events ends after w → IsAt events2 ends2 progress2 (takes B Propose w)) → (w : NodeState) → IsAt events ends progress w → IsAt events2 ends2 progress2 (proposes B w)
proposed B events events2 ends ends2 progress after progress2 casts is h w at =
    let can : B.castable w.events ≡ true = ap B.castable (sym at.events_are) ∙ casts in
    let e : proposes B w ≡ takes B Propose (record w { idle = false }) = rw can refl in
    (let Q : NodeState → Type 0 = λ x. IsAt events2 ends2 progress2 x in subst Q (sym e)
    (h (record w { idle = false }) (record { events_are = at.events_are; ends_are = at.ends_are; count = ap (λ (x : NodeProgress). x.count) is ∙ at.count; idle = ap (λ (x : NodeProgress). x.idle) is; idle_turns = ap (λ (x : NodeProgress). x.idle_turns) is ∙ at.idle_turns })))

pub proposed-gone : (B : NodeBehavior) (events : List NodeEvent) (has : List NodeEvent → Type 0) (ends ends2 : Option (List End)) (progress after progress2 : NodeProgress) → B.castable events ≡ true → after ≡ record progress { idle = false }
    → HasGone events has ends ends2 after progress2 (takes B Propose) → HasGone events has ends ends2 progress progress2 (proposes B)
proposed-gone B events has ends ends2 progress after progress2 casts is h =
    record { later = h.later; there = h.there; grown = h.grown; goes = proposed B events h.later ends ends2 progress after progress2 casts is h.goes }

pub not-proposed : (B : NodeBehavior) (events : List NodeEvent) (has : List NodeEvent → Type 0) (ends : Option (List End)) (progress : NodeProgress) → has events → B.castable events ≡ false
    → HasGone events has ends ends progress progress (proposes B)
not-proposed B events has ends progress there none = gone-still events has ends ends progress progress (proposes B) there goes
  where
    goes : (w : NodeState) → IsAt events ends progress w → IsAt events ends progress (proposes B w)
    goes w at =
        let cannot : B.castable w.events ≡ false = ap B.castable (sym at.events_are) ∙ none in
        let e : proposes B w ≡ w = rw cannot refl in
        (let Q : NodeState → Type 0 = λ x. IsAt events ends progress x in subst Q (sym e) at)

-- it takes a packet that arrives whole
pub received : (B : NodeBehavior) (me most : ℕ) (bytes : List ℕ) (events events2 : List NodeEvent) (ends ends1 ends2 : Option (List End)) (progress after progress2 : NodeProgress) → me ≡ B.me → after ≡ record progress { idle = false }
    → ((es : List End) → ends ≡ Some es → Some bytes ≡ (packet_at me most es).0) → ((es : List End) → ends ≡ Some es → ends1 ≡ Some (packet_at me most es).1)
    → ((w : NodeState) → IsAt events ends1 after w → IsAt events2 ends2 progress2 (takes B (Packet bytes) w)) → (w : NodeState) → IsAt events ends progress w → IsAt events2 ends2 progress2 (receives B most w)
received B me most bytes events events2 ends ends1 ends2 progress after progress2 mine is found left h w at =
    let t : Some bytes ≡ (packet_at B.me most w.ends).0 = found w.ends at.ends_are ∙ ap (λ (m : ℕ). (packet_at m most w.ends).0) mine in
    let r : ends1 ≡ Some (packet_at B.me most w.ends).1 = left w.ends at.ends_are ∙ ap (λ (m : ℕ). Some (packet_at m most w.ends).1) mine in
    let w1 : NodeState = record w { ends = (packet_at B.me most w.ends).1 } in
    let e : receives B most w ≡ takes B (Packet bytes) (record w1 { idle = false }) = ap (λ (o : Option (List ℕ)). arrives B o w1) (sym t) in
    (let Q : NodeState → Type 0 = λ x. IsAt events2 ends2 progress2 x in subst Q (sym e)
    (h (record w1 { idle = false }) (record { events_are = at.events_are; ends_are = r; count = ap (λ (x : NodeProgress). x.count) is ∙ at.count; idle = ap (λ (x : NodeProgress). x.idle) is; idle_turns = ap (λ (x : NodeProgress). x.idle_turns) is ∙ at.idle_turns })))

pub received-gone : (B : NodeBehavior) (me most : ℕ) (bytes : List ℕ) (events : List NodeEvent) (has : List NodeEvent → Type 0) (ends ends1 ends2 : Option (List End)) (progress after progress2 : NodeProgress) → B.me ≡ me → after ≡ record progress { idle = false }
    → ((es : List End) → ends ≡ Some es → Some bytes ≡ (packet_at me most es).0) → ((es : List End) → ends ≡ Some es → ends1 ≡ Some (packet_at me most es).1)
    → HasGone events has ends1 ends2 after progress2 (takes B (Packet bytes)) → HasGone events has ends ends2 progress progress2 (receives B most)
received-gone B me most bytes events has ends ends1 ends2 progress after progress2 mine is found left h =
    record { later = h.later; there = h.there; grown = h.grown; goes = received B me most bytes events h.later ends ends1 ends2 progress after progress2 (sym mine) is found left h.goes }

-- none arrives whole
pub not-received : (B : NodeBehavior) (me most : ℕ) (events : List NodeEvent) (has : List NodeEvent → Type 0) (ends ends1 : Option (List End)) (progress : NodeProgress) → has events → B.me ≡ me
    → ((es : List End) → ends ≡ Some es → None ≡ (packet_at me most es).0) → ((es : List End) → ends ≡ Some es → ends1 ≡ Some (packet_at me most es).1)
    → HasGone events has ends ends1 progress progress (receives B most)
not-received B me most events has ends ends1 progress there mine none left = gone-still events has ends ends1 progress progress (receives B most) there goes
  where
    goes : (w : NodeState) → IsAt events ends progress w → IsAt events ends1 progress (receives B most w)
    goes w at =
        let t : None ≡ (packet_at B.me most w.ends).0 = none w.ends at.ends_are ∙ ap (λ (m : ℕ). (packet_at m most w.ends).0) (sym mine) in
        let r : ends1 ≡ Some (packet_at B.me most w.ends).1 = left w.ends at.ends_are ∙ ap (λ (m : ℕ). Some (packet_at m most w.ends).1) (sym mine) in
        let w1 : NodeState = record w { ends = (packet_at B.me most w.ends).1 } in
        let e : receives B most w ≡ w1 = ap (λ (o : Option (List ℕ)). arrives B o w1) (sym t) in
        (let Q : NodeState → Type 0 = λ x. IsAt events ends1 progress x in subst Q (sym e)
        (record { events_are = at.events_are; ends_are = r; count = at.count; idle = at.idle; idle_turns = at.idle_turns }))

-- the node wakes up
pub rests-wakes : (B : NodeBehavior) (patience : ℕ) (events events2 : List NodeEvent) (ends ends2 : Option (List End)) (progress after progress2 : NodeProgress) → progress.idle ≡ true → progress.idle_turns + 1 ≡ patience → after ≡ record progress { idle_turns = 0 }
    → ((w : NodeState) → IsAt events ends after w → IsAt events2 ends2 progress2 (wakes B w)) → (w : NodeState) → IsAt events ends progress w → IsAt events2 ends2 progress2 (rests B patience w)
rests-wakes B patience events events2 ends ends2 progress after progress2 idle enough is h w at =
    let still : w.idle ≡ true = sym at.idle ∙ idle in
    let all : (w.idle_turns + 1 == patience) ≡ true = eq-eqb (w.idle_turns + 1) patience (ap (λ (n : ℕ). n + 1) (sym at.idle_turns) ∙ enough) in
    let e : rests B patience w ≡ wakes B (record w { idle_turns = 0 }) = rw (still, all) refl in
    (let Q : NodeState → Type 0 = λ x. IsAt events2 ends2 progress2 x in subst Q (sym e)
    (h (record w { idle_turns = 0 }) (record { events_are = at.events_are; ends_are = at.ends_are; count = ap (λ (x : NodeProgress). x.count) is ∙ at.count; idle = ap (λ (x : NodeProgress). x.idle) is ∙ at.idle; idle_turns = ap (λ (x : NodeProgress). x.idle_turns) is })))

pub wakes-gone : (B : NodeBehavior) (patience : ℕ) (events : List NodeEvent) (has : List NodeEvent → Type 0) (ends ends2 : Option (List End)) (progress after progress2 : NodeProgress) → progress.idle ≡ true → progress.idle_turns + 1 ≡ patience → after ≡ record progress { idle_turns = 0 }
    → HasGone events has ends ends2 after progress2 (wakes B) → HasGone events has ends ends2 progress progress2 (rests B patience)
wakes-gone B patience events has ends ends2 progress after progress2 idle enough is h =
    record { later = h.later; there = h.there; grown = h.grown; goes = rests-wakes B patience events h.later ends ends2 progress after progress2 idle enough is h.goes }

-- it does not: the turn was not idle, or not enough turns were
pub rests-busy : (B : NodeBehavior) (patience : ℕ) (events : List NodeEvent) (has : List NodeEvent → Type 0) (ends : Option (List End)) (progress after : NodeProgress) → has events → progress.idle ≡ false → after ≡ record progress { idle_turns = 0 }
    → HasGone events has ends ends progress after (rests B patience)
rests-busy B patience events has ends progress after there busy is = gone-still events has ends ends progress after (rests B patience) there goes
  where
    goes : (w : NodeState) → IsAt events ends progress w → IsAt events ends after (rests B patience w)
    goes w at =
        let still : w.idle ≡ false = sym at.idle ∙ busy in
        let e : rests B patience w ≡ record w { idle_turns = 0 } = rw still refl in
        (let Q : NodeState → Type 0 = λ x. IsAt events ends after x in subst Q (sym e)
        (record { events_are = at.events_are; ends_are = at.ends_are; count = ap (λ (x : NodeProgress). x.count) is ∙ at.count; idle = ap (λ (x : NodeProgress). x.idle) is ∙ at.idle; idle_turns = ap (λ (x : NodeProgress). x.idle_turns) is }))

pub rests-idle : (B : NodeBehavior) (patience : ℕ) (events : List NodeEvent) (has : List NodeEvent → Type 0) (ends : Option (List End)) (progress after : NodeProgress) → has events → progress.idle ≡ true → progress.idle_turns + 1 ≢ patience
    → after ≡ record progress { idle_turns = progress.idle_turns + 1 } → HasGone events has ends ends progress after (rests B patience)
rests-idle B patience events has ends progress after there idle few is = gone-still events has ends ends progress after (rests B patience) there goes
  where
    goes : (w : NodeState) → IsAt events ends progress w → IsAt events ends after (rests B patience w)
    goes w at =
        let still : w.idle ≡ true = sym at.idle ∙ idle in
        let not : (w.idle_turns + 1 == patience) ≡ false = ne_eqb (w.idle_turns + 1) patience (λ q. few (ap (λ (n : ℕ). n + 1) at.idle_turns ∙ q)) in
        let e : rests B patience w ≡ record w { idle_turns = w.idle_turns + 1 } = rw (still, not) refl in
        (let Q : NodeState → Type 0 = λ x. IsAt events ends after x in subst Q (sym e)
        (record { events_are = at.events_are; ends_are = at.ends_are; count = ap (λ (x : NodeProgress). x.count) is ∙ at.count; idle = ap (λ (x : NodeProgress). x.idle) is ∙ at.idle; idle_turns = ap (λ (x : NodeProgress). x.idle_turns) is ∙ ap (λ (n : ℕ). n + 1) at.idle_turns }))

-- it times out for all leaders whose segments it has not filled, and asks
pub woken : (B : NodeBehavior) (leaders : List NodeId) (events : List NodeEvent) (has1 has2 : List NodeEvent → Type 0) (ends ends1 ends2 : Option (List End)) (progress progress1 progress2 : NodeProgress) → leaders ≡ B.unfilled events
    → HasGone events has1 ends ends1 progress progress1 (times_out B leaders) → ((es : List NodeEvent) → has1 es → HasGone es has2 ends1 ends2 progress1 progress2 (asks B)) → HasGone events has2 ends ends2 progress progress2 (wakes B)
woken B leaders events has1 has2 ends ends1 ends2 progress progress1 progress2 are a b =
    let c = b a.later a.there in
    record { later = c.later; there = c.there; grown = λ k e h. c.grown k e (a.grown k e h); goes = λ w at. goes c.later c.goes w at }
  where
    goes : (es : List NodeEvent) → ((w : NodeState) → IsAt a.later ends1 progress1 w → IsAt es ends2 progress2 (asks B w)) → (w : NodeState) → IsAt events ends progress w → IsAt es ends2 progress2 (wakes B w)
    goes es asked w at =
        let same : leaders ≡ B.unfilled w.events = are ∙ ap B.unfilled at.events_are in
        (let Q : List NodeId → Type 0 = λ ls. IsAt es ends2 progress2 (asks B (times_out B ls w)) in subst Q same (asked (times_out B leaders w) (a.goes w at)))

-- there is another node to ask, or none
pub asked-gone : (B : NodeBehavior) (me nodes : ℕ) (peer : NodeId) (events : List NodeEvent) (has : List NodeEvent → Type 0) (ends ends2 : Option (List End)) (progress progress2 : NodeProgress) → B.setup.n ≡ nodes → B.me ≡ me → 1 < nodes → peer ≡ peer_of nodes me
    → HasGone events has ends ends2 progress progress2 (takes B (AskFrom peer)) → HasGone events has ends ends2 progress progress2 (asks B)
asked-gone B me nodes peer events has ends ends2 progress progress2 n mine more is h =
    record { later = h.later; there = h.there; grown = h.grown; goes = λ w at. goes h.later w (h.goes w at) }
  where
    goes : (es : List NodeEvent) (w : NodeState) → IsAt es ends2 progress2 (takes B (AskFrom peer) w) → IsAt es ends2 progress2 (asks B w)
    goes es w at =
        let many : nat_lt 1 B.setup.n ≡ true = ap (λ (k : ℕ). nat_lt 1 k) n ∙ lt-ltb 1 nodes more in
        let who : peer_of B.setup.n B.me ≡ peer = ap (λ (k : ℕ). peer_of k B.me) n ∙ ap (λ (k : ℕ). peer_of nodes k) mine ∙ sym is in
        let e : asks B w ≡ takes B (AskFrom peer) w = rw (many, who) refl in
        (let Q : NodeState → Type 0 = λ x. IsAt es ends2 progress2 x in subst Q (sym e) at)

pub not-asked : (B : NodeBehavior) (nodes : ℕ) (events : List NodeEvent) (has : List NodeEvent → Type 0) (ends : Option (List End)) (progress : NodeProgress) → has events → B.setup.n ≡ nodes → nodes ≤ 1
    → HasGone events has ends ends progress progress (asks B)
not-asked B nodes events has ends progress there n few = gone-still events has ends ends progress progress (asks B) there goes
  where
    goes : (w : NodeState) → IsAt events ends progress w → IsAt events ends progress (asks B w)
    goes w at =
        let none : nat_lt 1 B.setup.n ≡ false = ap (λ (k : ℕ). nat_lt 1 k) n ∙ le-ltb 1 nodes few in
        let e : asks B w ≡ w = rw none refl in
        (let Q : NodeState → Type 0 = λ x. IsAt events ends progress x in subst Q (sym e) at)

-- a turn begins
pub turn-begins : (events : List NodeEvent) (ends : Option (List End)) (progress after : NodeProgress) (w : NodeState) → after ≡ record progress { idle = true } → IsAt events ends progress w → IsAt events ends after (record w { idle = true })
turn-begins events ends progress after w is at = record { events_are = at.events_are; ends_are = at.ends_are; count = ap (λ (x : NodeProgress). x.count) is ∙ at.count; idle = ap (λ (x : NodeProgress). x.idle) is; idle_turns = ap (λ (x : NodeProgress). x.idle_turns) is ∙ at.idle_turns }

-- a whole turn
pub turned : (B : NodeBehavior) (frames patience : ℕ) (e0 : List NodeEvent) (has1 has2 has3 : List NodeEvent → Type 0) (n0 n1 n2 n3 : Option (List End)) (t0 t1 t2 t3 t4 : NodeProgress) → t1 ≡ record t0 { idle = true }
    → HasGone e0 has1 n0 n1 t1 t2 (proposes B) → ((es : List NodeEvent) → has1 es → HasGone es has2 n1 n2 t2 t3 (receives B frames))
    → ((es : List NodeEvent) → has2 es → HasGone es has3 n2 n3 t3 t4 (rests B patience)) → HasGone e0 has3 n0 n3 t0 t4 (turn B frames patience)
turned B frames patience e0 has1 has2 has3 n0 n1 n2 n3 t0 t1 t2 t3 t4 is a more last =
    let b = more a.later a.there in
    let c = last b.later b.there in
    record {
      later = c.later;
      there = c.there;
      grown = λ k e h. c.grown k e (b.grown k e (a.grown k e h));
      goes = λ w at.
          let w0 : NodeState = record w { idle = true } in
          c.goes (receives B frames (proposes B w0)) (b.goes (proposes B w0) (a.goes w0 (turn-begins e0 n0 t0 t1 w is at)));
    }

-- what an accepted event made is of the newest event of the node
pub newest : (B : NodeBehavior) (event : NodeEvent) (events : List NodeEvent) (has : NodeBehavior → List NodeEvent → Type 0) (sends released : List (To × List ℕ)) → IsStep B events event (has B) (Taken sends) → released ≡ sends → AreOfNewest has released
newest B event events has sends released was are = record { does = B; before = events; newest = event; accepted = was.1; made = are ∙ was.2 }

-- what is read at a place of the sends is one of them
pub send-in : (sends : List (To × List ℕ)) (i : ℕ) (s : To × List ℕ) → i < length sends → s ≡ get_or sends i s → In s sends
send-in [] i s low is = absurd (omega (arith, low))
send-in (x ∷ xs) zero s low is = inl is
send-in (x ∷ xs) (suc i) s low is = inr (send-in xs i s (omega (arith, low)) is)

-- each of the sends goes to a node
pub goes-to-node : (n : ℕ) (sends : List (To × List ℕ)) (s : To × List ℕ) → AreToNodes n sends → In s sends → IsToNode n s.0
goes-to-node n [] s h none = absurd none
goes-to-node n (x ∷ xs) s h (inl is) = subst (λ (y : To × List ℕ). IsToNode n y.0) (sym is) h.0
goes-to-node n (x ∷ xs) s h (inr behind) = goes-to-node n xs s h.1 behind
