-- Cores that are alike take each event alike.
use Rattle.std.proofs.Common.{◌≡◌, ℕ, suc, ◌+◌, Bool, true, false, cond, eqb, nat_lt, not, ◌&&◌, ◌||◌, List, [], ◌∷◌, ◌++◌, Option, Some, None, length, is_some, refl, ap, ap₂, ◌∙◌, subst, true≢false}
use Rattle.iss_base.specs.Lists.{first_of}
use Rattle.iss_base.proofs.Lists.{and-true, is-eq, not-false, or-false}
use Rattle.iss_buckets.specs.Waiting.{absent, cut, uncut}
use Rattle.iss_checkpoint.specs.declared.votes.Cert.{Cert}
use Rattle.iss_checkpoint.specs.declared.votes.Vote.{Vote}
use Rattle.iss_request.specs.Log.{has_id, ids, log_ids}
use Rattle.iss_request.specs.declared.ids.ReqId.{ReqId}
use Rattle.iss_request.specs.declared.ids.Slot.{Slot}
use Rattle.iss_request.specs.declared.requests.Batch.{Batch}
use Rattle.iss_request.specs.declared.requests.Request.{Request}
use Rattle.iss_request.specs.declared.requests.Value.{Value}
use Rattle.iss_sb.specs.declared.effects.Claim.{Claim}
use Rattle.iss_sb.specs.declared.effects.Input.{Input}
use Rattle.iss_sb.specs.declared.effects.Input.TheVariants.{Cast, Receive, Timeout}
use Rattle.iss_sb.specs.declared.effects.Params.{Params}
use Rattle.iss_sb.specs.declared.effects.To.{To}
use Rattle.iss_sb.specs.declared.effects.To.TheVariants.{All as To_all, One as To_one}
use Rattle.iss_sb.specs.Evidence.{Item, Made, Module, accepts}
use Rattle.iss_transfer.specs.declared.pieces.Piece.{Piece as Sent_piece}
use Rattle.iss_rules.specs.declared.events.NodeEvent.{NodeEvent}
use Rattle.iss_rules.specs.declared.events.NodeEvent.TheVariants.{Packet as On_packet, Propose as On_propose, Timeout as On_timeout, AskFrom as On_ask}
use Rattle.iss_rules.specs.declared.events.Refusal.{Refusal}
use Rattle.iss_rules.specs.declared.events.Why.TheVariants.{BadRequest, Known, OutOfWindow, OtherEpoch, EarlyFull, NotLeader, BadClaim, NoKeys, NoCert, NotNeeded, WrongChain}
use Rattle.iss_rules.specs.Judge.{marks}
use Rattle.iss_rules.specs.Parcels.{Body, Formats, OfAsk, OfModule, OfPiece, OfRequest, OfVote, Parcel}
use Rattle.iss_rules.specs.Past.{Past, adopts, before_own, cut_at, is_complete, leads_in, log_of, made_in, params_of, start_of, taken_in, takes}
use Rattle.iss_rules.specs.Rules.{Rules}
use Rattle.iss_rules.specs.Votes.{all_verify, cert_on, claim_of_vote, is_true_cert, keeping, vote_by}
use Rattle.iss_rules.specs.Verdicts.{verdict_in}
use Rattle.iss_rules.proofs.Ending.{HasSlots}
use Rattle.iss_model.specs.Node.{Core, Dropped, Early, Stepped, Taken, Turn, adopts_piece, asking, try_step, by_verdict, casts_at, claims_in, claims_of_input, counted, early_most, ended, ends, first_slot, flown, flying, grown_strings, handing, hands_out, has_leaves, has_shape, step_unjudged, is_castable, is_counted, is_known, is_mine, joined, keeps_early, leads_to, next_slot, then_turn, own_claims, packed, after_growth, unchanged, returned, finish_step, advance_epochs, step, takes_bytes, takes_each, takes_early, takes_message, takes_parcel, takes_piece, takes_request, takes_vote, or_unchanged, values_of, vote_on}
use Rattle.iss_model.specs.Run.{claims_at}
use Rattle.iss_model.specs.Views.{claims_of_body, claims_of_parcel}
use Rattle.iss_model.proofs.AlikeLogs.{Alike, adopts-alike, advanced-alike, ap₃, before-alike, complete-alike, leads-alike, made-alike, params-alike, taken-alike, takes-alike, verdict-alike}
use Rattle.iss_model.proofs.AlikeVotes.{SameVotes, counted-same, counting-same, kept-same}

module _ {Msg : Type 0} (F : Formats Msg) (R : Rules) (slots : HasSlots R) (M : Module Msg) (me : ℕ) where
  pub record AlikeCore (c d : Core Msg) : Type 0 where
    pub past : Alike R M me c.past d.past
    pub waiting : c.waiting ≡ d.waiting
    pub flight : c.flight ≡ d.flight
    pub early : c.early ≡ d.early
    pub voted : SameVotes c.certs d.certs c.votes d.votes
    pub leaf : c.leaf ≡ d.leaf

  -- the same epoch was entered alike, or none was
  abbrev pub AlikeEntered : Option (Core Msg) → Option (Core Msg) → Type 0
  AlikeEntered None None = Unit {0}
  AlikeEntered None (Some d) = ⊥
  AlikeEntered (Some c) None = ⊥
  AlikeEntered (Some c) (Some d) = AlikeCore c d

  pub record AlikeTurn (t u : Turn Msg) : Type 0 where
    pub core : AlikeCore t.core u.core
    pub entered : AlikeEntered t.entered u.entered
    pub sends : t.sends ≡ u.sends
    pub own : t.own ≡ u.own
    pub early : t.early ≡ u.early
    pub strings : t.strings ≡ u.strings

  abbrev pub AlikeStep : Stepped Msg → Stepped Msg → Type 0
  AlikeStep (Dropped a) (Dropped b) = a ≡ b
  AlikeStep (Dropped a) (Taken u) = ⊥
  AlikeStep (Taken t) (Dropped b) = ⊥
  AlikeStep (Taken t) (Taken u) = AlikeTurn t u

  -- a test that comes out the same
  either : (a b : Bool) → a ≡ b → (x y u v : Stepped Msg) → (a ≡ true → AlikeStep x y) → (a ≡ false → AlikeStep u v) → AlikeStep (cond a x u) (cond b y v)
  either a b q x y u v s t = subst (λ (z : Bool). AlikeStep (cond a x u) (cond z y v)) q (go a s t)
    where
      go : (a : Bool) → (a ≡ true → AlikeStep x y) → (a ≡ false → AlikeStep u v) → AlikeStep (cond a x u) (cond a y v)
      go true s t = s refl
      go false s t = t refl

  either-turn : (a b : Bool) → a ≡ b → (x y u v : Turn Msg) → (a ≡ true → AlikeTurn x y) → (a ≡ false → AlikeTurn u v) → AlikeTurn (cond a x u) (cond b y v)
  either-turn a b q x y u v s t = subst (λ (z : Bool). AlikeTurn (cond a x u) (cond z y v)) q (go a s t)
    where
      go : (a : Bool) → (a ≡ true → AlikeTurn x y) → (a ≡ false → AlikeTurn u v) → AlikeTurn (cond a x u) (cond a y v)
      go true s t = s refl
      go false s t = t refl

  unchanged-alike : (c d : Core Msg) → AlikeCore c d → AlikeTurn (unchanged c) (unchanged d)
  unchanged-alike c d a = record { core = a; entered = tt; sends = refl; own = refl; early = refl; strings = refl }

  first-alike : (a b c d : Option (Core Msg)) → AlikeEntered a b → AlikeEntered c d → AlikeEntered (first_of a c) (first_of b d)
  first-alike None None c d h k = k
  first-alike None (Some y) c d h k = absurd h
  first-alike (Some x) None c d h k = absurd h
  first-alike (Some x) (Some y) c d h k = h

  then-alike : (t u : Turn Msg) → AlikeTurn t u → (f g : Core Msg → Turn Msg) → AlikeTurn (f t.core) (g u.core) → AlikeTurn (then_turn t f) (then_turn u g)
  then-alike t u a f g b = record {
    core = b.core;
    entered = first-alike (f t.core).entered (g u.core).entered t.entered u.entered b.entered a.entered;
    sends = ap₂ (λ (x y : List (To × List ℕ)). x ++ y) a.sends b.sends;
    own = ap₂ (λ (x y : List Claim). x ++ y) a.own b.own;
    early = ap₂ (λ (x y : List Claim). x ++ y) a.early b.early;
    strings = ap₂ (λ (x y : List (List ℕ)). x ++ y) a.strings b.strings;
  }

  -- ---- what is filed anew

  growth-alike : (c d : Core Msg) → AlikeCore c d → (v w : Past Msg) → Alike R M me v w → (leaf next : ℕ) → leaf ≡ next →
      AlikeCore (after_growth R M me c v leaf) (after_growth R M me d w next)
  growth-alike c d a v w h leaf next leaves = record {
    past = h;
    waiting =
        ap₂ (λ (x y : List Request). x ++ y)
        (ap₃ (λ (old log : List Value) (waiting : List Request). absent (log_ids (joined (length old) log)) waiting) a.past.log h.log a.waiting)
        (ap₂ (λ (log : List Value) (flight : List (Slot × Batch)). absent (log_ids log) (returned log flight)) h.log a.flight);
    flight = ap₂ (λ (log : List Value) (flight : List (Slot × Batch)). flying (length log) flight) h.log a.flight;
    early = a.early;
    voted = a.voted;
    leaf = leaves;
  }

  module _ (c d : Core Msg) (a : AlikeCore c d) (l : ℕ) where
    leaves-same : has_leaves M (params_of R M me c.past l) c.leaf ≡ has_leaves M (params_of R M me d.past l) d.leaf
    leaves-same = ap₂ (λ (p : Params) (n : ℕ). has_leaves M p n) (params-alike R M me c.past d.past a.past l) a.leaf

    module _ (i j : Input Msg) (same : i ≡ j) where
      made-same : made_in R M me c.past l i c.leaf ≡ made_in R M me d.past l j d.leaf
      made-same = made-alike R M me c.past d.past a.past l i j same c.leaf d.leaf a.leaf

      takes-both : Alike R M me (takes R M me c.past l i c.leaf) (takes R M me d.past l j d.leaf)
      takes-both = takes-alike R M me slots c.past d.past a.past l i j same c.leaf d.leaf a.leaf

      unjudged-alike : AlikeTurn (step_unjudged F R M me c l i) (step_unjudged F R M me d l j)
      unjudged-alike = record {
        core = growth-alike c d a (takes R M me c.past l i c.leaf) (takes R M me d.past l j d.leaf) takes-both
            (c.leaf + (made_in R M me c.past l i c.leaf).used) (d.leaf + (made_in R M me d.past l j d.leaf).used)
            (ap₂ (λ (n : ℕ) (m : Made Msg). n + m.used) a.leaf made-same);
        entered = tt;
        sends = ap₂ (λ (e : ℕ) (m : Made Msg). packed F me e l m.sends) a.past.epoch made-same;
        own = ap₂ (λ (p : Params) (m : Made Msg). own_claims M p me m.sends) (params-alike R M me c.past d.past a.past l) made-same;
        early = refl;
        strings = ap₃ (λ (m : Made Msg) (old log : List Value). m.strings ++ grown_strings R old log) made-same a.past.log takes-both.log;
      }

    judged-alike : (o : Option Refusal) (t u : Turn Msg) → AlikeTurn t u → AlikeStep (by_verdict o t) (by_verdict o u)
    judged-alike None t u h = h
    judged-alike (Some x) t u h = refl

    try-alike : (i : Input Msg) → AlikeStep (try_step F R M me c l i) (try_step F R M me d l i)
    try-alike i =
        either (not (leads_in R M me c.past l)) (not (leads_in R M me d.past l)) (ap (λ (b : Bool). not b) (leads-alike R M me c.past d.past a.past l))
        (Dropped NotLeader) (Dropped NotLeader) _ _ (λ q. refl)
        (λ q1. either (not (all_verify R (claims_of_input M (params_of R M me c.past l) i))) (not (all_verify R (claims_of_input M (params_of R M me d.past l) i)))
        (ap (λ (p : Params). not (all_verify R (claims_of_input M p i))) (params-alike R M me c.past d.past a.past l))
        (Dropped BadClaim) (Dropped BadClaim) _ _ (λ q. refl)
        (λ q2. either (not (has_leaves M (params_of R M me c.past l) c.leaf)) (not (has_leaves M (params_of R M me d.past l) d.leaf))
        (ap (λ (b : Bool). not b) leaves-same)
        (Dropped NoKeys) (Dropped NoKeys) _ _ (λ q. refl)
        (λ q3. subst (λ (o : Option Refusal). AlikeStep (by_verdict (verdict_in R M me c.past l i) (step_unjudged F R M me c l i)) (by_verdict o (step_unjudged F R M me d l i)))
        (verdict-alike R M me c.past d.past a.past l i i refl)
        (judged-alike (verdict_in R M me c.past l i) (step_unjudged F R M me c l i) (step_unjudged F R M me d l i) (unjudged-alike i i refl)))))

  -- ---- the end of an epoch

  abbrev vote_from : ℕ → List Value → ℕ → Vote
  vote_from e log leaf =
      let end = R.end (cut_at R log (suc e)) in
      record {
        epoch = record { 0 = e };
        chain = end.chain;
        requests = end.requests;
        by = record { 0 = me };
        sig = R.signature me leaf (R.voted e end.chain end.requests);
      }

  ends-alike : (c d : Core Msg) → AlikeCore c d → is_complete R M me c.past ≡ true → AlikeTurn (ends F R M me c) (ends F R M me d)
  ends-alike c d a done =
      let vote : vote_on R M me c ≡ vote_on R M me d = ap₃ vote_from a.past.epoch a.past.log a.leaf in
      let past = advanced-alike R M me slots c.past d.past a.past done in
      let leaf = ap (λ (n : ℕ). suc n) a.leaf in
      record {
        core = record { past = past; waiting = a.waiting; flight = a.flight; early = refl; voted = a.voted; leaf = leaf };
        entered = record { past = past; waiting = a.waiting; flight = a.flight; early = a.early; voted = a.voted; leaf = leaf };
        sends = ap₂ (λ (e : ℕ) (v : Vote). ◌∷◌ (To_all, F.wrap (record { from = me; epoch = e; body = OfVote v })) []) a.past.epoch vote;
        own = ap (λ (v : Vote). ◌∷◌ (claim_of_vote R v) []) vote;
        early = refl;
        strings = refl;
      }

  ended-alike : (t u : Turn Msg) → AlikeTurn t u → AlikeTurn (ended F R M me t) (ended F R M me u)
  ended-alike t u a =
      either-turn (is_complete R M me t.core.past) (is_complete R M me u.core.past) (complete-alike R M me t.core.past u.core.past a.core.past)
      (then_turn t (ends F R M me)) (then_turn u (ends F R M me)) t u
      (λ q. then-alike t u a (ends F R M me) (ends F R M me) (ends-alike t.core u.core a.core q))
      (λ q. a)

  or-alike : (c d : Core Msg) → AlikeCore c d → (o p : Stepped Msg) → AlikeStep o p → AlikeTurn (or_unchanged c o) (or_unchanged d p)
  or-alike c d a (Dropped x) (Dropped y) h = unchanged-alike c d a
  or-alike c d a (Dropped x) (Taken u) h = absurd h
  or-alike c d a (Taken t) (Dropped y) h = absurd h
  or-alike c d a (Taken t) (Taken u) h = h

  read-alike : (c d : Core Msg) → AlikeCore c d → (from l : ℕ) (msg : Msg) → claims_in R M me c.past from l msg ≡ claims_in R M me d.past from l msg
  read-alike c d a from l msg =
      ap₂ (λ (b : Bool) (p : Params). cond b (M.claims p from msg) []) (leads-alike R M me c.past d.past a.past l) (params-alike R M me c.past d.past a.past l)

  early-alike : (c d : Core Msg) → AlikeCore c d → (x : Early Msg) → AlikeTurn (takes_early F R M me c x) (takes_early F R M me d x)
  early-alike c d a x =
      let i : Input Msg = Receive (record { 0 = x.from }) x.msg in
      let o = try_step F R M me c x.leader i in
      let p = try_step F R M me d x.leader i in
      let h = ended-alike (or_unchanged c o) (or_unchanged d p) (or-alike c d a o p (try-alike c d a x.leader i)) in
      record { core = h.core; entered = h.entered; sends = h.sends; own = h.own; early = read-alike c d a x.from x.leader x.msg; strings = h.strings }

  each-alike : (e : ℕ) (xs : List (Early Msg)) (c d : Core Msg) → AlikeCore c d → AlikeTurn (takes_each F R M me e xs c) (takes_each F R M me e xs d)
  each-alike e [] c d a = unchanged-alike c d a
  each-alike e (x ∷ xs) c d a =
      let t = takes_early F R M me c x in
      let u = takes_early F R M me d x in
      let h : AlikeTurn t u = early-alike c d a x in
      let rest = each-alike e xs t.core u.core h.core in
      either-turn (eqb c.past.epoch e) (eqb d.past.epoch e) (ap (λ (n : ℕ). eqb n e) a.past.epoch)
      (then_turn t (takes_each F R M me e xs)) (then_turn u (takes_each F R M me e xs)) (unchanged c) (unchanged d)
      (λ q. then-alike t u h (takes_each F R M me e xs) (takes_each F R M me e xs) rest)
      (λ q. unchanged-alike c d a)

  -- what came early, from cores whose lists of it are equal
  each-both : (e f : ℕ) → e ≡ f → (xs ys : List (Early Msg)) → xs ≡ ys → (c d : Core Msg) → AlikeCore c d →
      AlikeTurn (takes_each F R M me e xs c) (takes_each F R M me f ys d)
  each-both e f q xs ys r c d a =
      subst (λ (n : ℕ). AlikeTurn (takes_each F R M me e xs c) (takes_each F R M me n ys d)) q
      (subst (λ (zs : List (Early Msg)). AlikeTurn (takes_each F R M me e xs c) (takes_each F R M me e zs d)) r (each-alike e xs c d a))

  advance-alike : (t u : Turn Msg) → AlikeTurn t u → AlikeTurn (advance_epochs F R M me t) (advance_epochs F R M me u)
  advance-alike t u a =
      let v = then_turn t (ends F R M me) in
      let w = then_turn u (ends F R M me) in
      either-turn (is_complete R M me t.core.past) (is_complete R M me u.core.past) (complete-alike R M me t.core.past u.core.past a.core.past)
      (then_turn v (takes_each F R M me (suc t.core.past.epoch) t.core.early)) (then_turn w (takes_each F R M me (suc u.core.past.epoch) u.core.early)) t u
      (λ q.
      let h : AlikeTurn v w = then-alike t u a (ends F R M me) (ends F R M me) (ends-alike t.core u.core a.core q) in
      then-alike v w h (takes_each F R M me (suc t.core.past.epoch) t.core.early) (takes_each F R M me (suc u.core.past.epoch) u.core.early)
      (each-both (suc t.core.past.epoch) (suc u.core.past.epoch) (ap (λ (n : ℕ). suc n) a.core.past.epoch) t.core.early u.core.early a.core.early v.core w.core h.core))
      (λ q. a)

  finish-alike : (o p : Stepped Msg) → AlikeStep o p → AlikeStep (finish_step F R M me o) (finish_step F R M me p)
  finish-alike (Dropped x) (Dropped y) h = h
  finish-alike (Dropped x) (Taken u) h = absurd h
  finish-alike (Taken t) (Dropped y) h = absurd h
  finish-alike (Taken t) (Taken u) h = advance-alike t u h

  -- ---- requests, messages and votes

  module _ (c d : Core Msg) (a : AlikeCore c d) where
    known-same : (x : ReqId) → is_known R M me c x ≡ is_known R M me d x
    known-same x =
        ap₃ (λ (waiting : List Request) (flight : List (Slot × Batch)) (log : List Value).
        has_id x (ids waiting) || (has_id x (flown flight) || has_id x (log_ids log))) a.waiting a.flight a.past.log

    request-alike : (q : Request) → AlikeStep (takes_request R M me c q) (takes_request R M me d q)
    request-alike q =
        either (not (R.signed q)) (not (R.signed q)) refl (Dropped BadRequest) (Dropped BadRequest) _ _ (λ z. refl)
        (λ z1. either (is_known R M me c q.id) (is_known R M me d q.id) (known-same q.id) (Dropped Known) (Dropped Known) _ _ (λ z. refl)
        (λ z2. either (not (R.inside (before_own R M me c.past) c.past.epoch q.id)) (not (R.inside (before_own R M me d.past) d.past.epoch q.id))
        (ap₂ (λ (b : List Value) (e : ℕ). not (R.inside b e q.id)) (before-alike R M me c.past d.past a.past) a.past.epoch)
        (Dropped OutOfWindow) (Dropped OutOfWindow) _ _ (λ z. refl)
        (λ z3. unchanged-alike (record c { waiting = c.waiting ++ q ∷ [] }) (record d { waiting = d.waiting ++ q ∷ [] }) (record {
          past = a.past;
          waiting = ap (λ (qs : List Request). qs ++ q ∷ []) a.waiting;
          flight = a.flight;
          early = a.early;
          voted = a.voted;
          leaf = a.leaf;
        }))))

    keeping-alike : (x : Early Msg) → AlikeStep (keeps_early c x) (keeps_early d x)
    keeping-alike x =
        either (nat_lt (length c.early) early_most) (nat_lt (length d.early) early_most) (ap (λ (xs : List (Early Msg)). nat_lt (length xs) early_most) a.early)
        (Taken (unchanged (record c { early = c.early ++ x ∷ [] }))) (Taken (unchanged (record d { early = d.early ++ x ∷ [] }))) (Dropped EarlyFull) (Dropped EarlyFull)
        (λ z. unchanged-alike (record c { early = c.early ++ x ∷ [] }) (record d { early = d.early ++ x ∷ [] }) (record {
          past = a.past;
          waiting = a.waiting;
          flight = a.flight;
          early = ap (λ (xs : List (Early Msg)). xs ++ x ∷ []) a.early;
          voted = a.voted;
          leaf = a.leaf;
        }))
        (λ z. refl)

    message-alike : (from e l : ℕ) (msg : Msg) → AlikeStep (takes_message F R M me c from e l msg) (takes_message F R M me d from e l msg)
    message-alike from e l msg =
        let i : Input Msg = Receive (record { 0 = from }) msg in
        either (eqb e c.past.epoch) (eqb e d.past.epoch) (ap (λ (n : ℕ). eqb e n) a.past.epoch)
        (finish_step F R M me (try_step F R M me c l i)) (finish_step F R M me (try_step F R M me d l i)) _ _
        (λ z. finish-alike (try_step F R M me c l i) (try_step F R M me d l i) (try-alike c d a l i))
        (λ z1. either (eqb e (suc c.past.epoch)) (eqb e (suc d.past.epoch)) (ap (λ (n : ℕ). eqb e (suc n)) a.past.epoch)
        (keeps_early c (record { from = from; leader = l; msg = msg })) (keeps_early d (record { from = from; leader = l; msg = msg }))
        (Dropped OtherEpoch) (Dropped OtherEpoch) (λ z. keeping-alike (record { from = from; leader = l; msg = msg })) (λ z. refl))

    none-here : (v : Vote) → is_counted c v ≡ false → cert_on c.certs v.epoch.0 ≡ None
    none-here v h = go (cert_on c.certs v.epoch.0) (or-false (is_some (cert_on c.certs v.epoch.0)) (is_some (vote_by c.votes v.epoch.0 v.by.0)) h).0
      where
        go : (o : Option Cert) → is_some o ≡ false → o ≡ None
        go None q = refl
        go (Some x) q = absurd (true≢false q)

    vote-alike : (v : Vote) → AlikeStep (takes_vote R c v) (takes_vote R d v)
    vote-alike v =
        either (nat_lt (suc c.past.epoch) v.epoch.0) (nat_lt (suc d.past.epoch) v.epoch.0) (ap (λ (n : ℕ). nat_lt (suc n) v.epoch.0) a.past.epoch)
        (Dropped OtherEpoch) (Dropped OtherEpoch) _ _ (λ z. refl)
        (λ z1. either (not (all_verify R (claim_of_vote R v ∷ []))) (not (all_verify R (claim_of_vote R v ∷ []))) refl
        (Dropped BadClaim) (Dropped BadClaim) _ _ (λ z. refl)
        (λ z2. either (is_counted c v) (is_counted d v) (counted-same c.certs d.certs c.votes d.votes a.voted v.epoch.0 v.by.0)
        (Dropped Known) (Dropped Known) (Taken (unchanged (counted R c v))) (Taken (unchanged (counted R d v))) (λ z. refl)
        (λ z. unchanged-alike (counted R c v) (counted R d v) (record {
          past = a.past;
          waiting = a.waiting;
          flight = a.flight;
          early = a.early;
          voted = counting-same R c.certs d.certs c.votes d.votes a.voted v (none-here v z);
          leaf = a.leaf;
        }))))

    -- ---- asks and pieces

    abbrev piece_from : List Value → ℕ → Cert → Sent_piece
    piece_from log e cert = record { epoch = record { 0 = e }; values = values_of R log e; cert = cert }

    handing-alike : (to e : ℕ) (cert : Cert) → AlikeTurn (handing F R M me c to e cert) (handing F R M me d to e cert)
    handing-alike to e cert = record {
      core = a;
      entered = tt;
      sends = ap (λ (log : List Value). ◌∷◌ (To_one (record { 0 = to }), F.wrap (record { from = me; epoch = e; body = OfPiece (piece_from log e cert) })) []) a.past.log;
      own = refl;
      early = refl;
      strings = refl;
    }

    hand-alike : (to e : ℕ) (o : Option Cert) → AlikeStep (hands_out F R M me c to e o) (hands_out F R M me d to e o)
    hand-alike to e None = refl
    hand-alike to e (Some cert) =
        either (nat_lt (length (log_of R M me c.past)) (start_of R (log_of R M me c.past) (suc e)))
        (nat_lt (length (log_of R M me d.past)) (start_of R (log_of R M me d.past) (suc e)))
        (ap (λ (log : List Value). nat_lt (length log) (start_of R log (suc e))) a.past.log)
        (Dropped NoCert) (Dropped NoCert) (Taken (handing F R M me c to e cert)) (Taken (handing F R M me d to e cert)) (λ z. refl)
        (λ z. handing-alike to e cert)

    handed-alike : (to e : ℕ) → AlikeStep (hands_out F R M me c to e (cert_on c.certs e)) (hands_out F R M me d to e (cert_on d.certs e))
    handed-alike to e =
        subst (λ (o : Option Cert). AlikeStep (hands_out F R M me c to e (cert_on c.certs e)) (hands_out F R M me d to e o)) (a.voted.certs_are e)
        (hand-alike to e (cert_on c.certs e))

    asking-alike : (peer : _) → AlikeTurn (asking F me c peer) (asking F me d peer)
    asking-alike peer = record {
      core = a;
      entered = tt;
      sends = ap (λ (e : ℕ). ◌∷◌ (To_one peer, F.wrap (record { from = me; epoch = e; body = OfAsk })) []) a.past.epoch;
      own = refl;
      early = refl;
      strings = refl;
    }

    adopting-alike : (p : Sent_piece) → length p.values ≡ R.slots (before_own R M me c.past) c.past.epoch →
        AlikeTurn (adopts_piece R M me c p) (adopts_piece R M me d p)
    adopting-alike p whole =
        let v = adopts c.past (record { epoch = c.past.epoch; values = p.values }) in
        let w = adopts d.past (record { epoch = d.past.epoch; values = p.values }) in
        let h : Alike R M me v w = adopts-alike R M me slots c.past d.past a.past p.values whole in
        let filed = growth-alike c d a v w h c.leaf d.leaf a.leaf in
        let certs : cert_on c.certs c.past.epoch ≡ cert_on d.certs d.past.epoch =
        a.voted.certs_are c.past.epoch ∙ ap (λ (e : ℕ). cert_on d.certs e) a.past.epoch in
        let voted =
        subst (λ (o : Option Cert). SameVotes (keeping c.certs p.cert (cert_on c.certs c.past.epoch)) (keeping d.certs p.cert o) c.votes d.votes) certs
        (kept-same c.certs d.certs c.votes d.votes a.voted p.cert (cert_on c.certs c.past.epoch)) in
        record {
          core = record { past = filed.past; waiting = filed.waiting; flight = filed.flight; early = refl; voted = voted; leaf = a.leaf };
          entered = record { past = filed.past; waiting = filed.waiting; flight = filed.flight; early = a.early; voted = voted; leaf = a.leaf };
          sends = refl;
          own = refl;
          early = refl;
          strings = ap₃ (λ (b old log : List Value). R.hashes b p.values ++ grown_strings R old log) (before-alike R M me c.past d.past a.past) a.past.log h.log;
        }

    piece-alike : (p : Sent_piece) → AlikeStep (takes_piece F R M me c p) (takes_piece F R M me d p)
    piece-alike p =
        let bc = before_own R M me c.past in
        let bd = before_own R M me d.past in
        let same : bc ≡ bd = before-alike R M me c.past d.past a.past in
        either (nat_lt p.epoch.0 c.past.epoch) (nat_lt p.epoch.0 d.past.epoch) (ap (λ (e : ℕ). nat_lt p.epoch.0 e) a.past.epoch)
        (Dropped NotNeeded) (Dropped NotNeeded) _ _ (λ z. refl)
        (λ z1. either (nat_lt c.past.epoch p.epoch.0) (nat_lt d.past.epoch p.epoch.0) (ap (λ (e : ℕ). nat_lt e p.epoch.0) a.past.epoch)
        (Dropped OtherEpoch) (Dropped OtherEpoch) _ _ (λ z. refl)
        (λ z2. either (not (has_shape R bc c.past.epoch p)) (not (has_shape R bd d.past.epoch p))
        (ap₂ (λ (b : List Value) (e : ℕ). not (has_shape R b e p)) same a.past.epoch)
        (Dropped OtherEpoch) (Dropped OtherEpoch) _ _ (λ z. refl)
        (λ shape. either (not (is_true_cert R p.cert)) (not (is_true_cert R p.cert)) refl (Dropped BadClaim) (Dropped BadClaim) _ _ (λ z. refl)
        (λ z4. either (not (leads_to R bc p)) (not (leads_to R bd p)) (ap (λ (b : List Value). not (leads_to R b p)) same)
        (Dropped WrongChain) (Dropped WrongChain)
        (Taken (then_turn (adopts_piece R M me c p) (takes_each F R M me (suc c.past.epoch) c.early)))
        (Taken (then_turn (adopts_piece R M me d p) (takes_each F R M me (suc d.past.epoch) d.early))) (λ z. refl)
        (λ z5.
        let parts = and-true (eqb p.cert.epoch.0 c.past.epoch) (eqb (length p.values) (R.slots bc c.past.epoch)) (not-false _ shape) in
        let h = adopting-alike p (is-eq (length p.values) (R.slots bc c.past.epoch) parts.1) in
        then-alike (adopts_piece R M me c p) (adopts_piece R M me d p) h (takes_each F R M me (suc c.past.epoch) c.early) (takes_each F R M me (suc d.past.epoch) d.early)
        (each-both (suc c.past.epoch) (suc d.past.epoch) (ap (λ (n : ℕ). suc n) a.past.epoch) c.early d.early a.early
        (adopts_piece R M me c p).core (adopts_piece R M me d p).core h.core))))))

    -- ---- casts

    abbrev mine : List Value → ℕ → List (Item Msg) → Request → Bool
    mine b e xs q = eqb (R.owner b e q.id) me && not (has_id q.id (marks (accepts xs)))

    mine-same : is_mine R M me c ≡ is_mine R M me d
    mine-same =
        ap₃ (λ (b : List Value) (e : ℕ) (xs : List (Item Msg)). mine b e xs) (before-alike R M me c.past d.past a.past) a.past.epoch
        (taken-alike R M me c.past d.past a.past me)

    abbrev slot_from : Params → List Value → List (Item Msg) → List (Slot × Batch) → Option Slot
    slot_from p log xs flight = first_slot (λ s. not (nat_lt s.0 (length log)) && is_castable M p me xs flight s) p.slots

    slot-same : next_slot R M me c ≡ next_slot R M me d
    slot-same =
        ap₃ (λ (p : Params) (log : List Value) (xs : List (Item Msg)). slot_from p log xs c.flight) (params-alike R M me c.past d.past a.past me) a.past.log
        (taken-alike R M me c.past d.past a.past me)
        ∙ ap (λ (flight : List (Slot × Batch)). slot_from (params_of R M me d.past me) (log_of R M me d.past) (taken_in d.past me) flight) a.flight

    cast-alike : (o : Option Slot) → AlikeStep (casts_at F R M me c o) (casts_at F R M me d o)
    cast-alike None = refl
    cast-alike (Some s) =
        let bc : Batch = cut R.batch (is_mine R M me c) c.waiting in
        let bd : Batch = cut R.batch (is_mine R M me d) d.waiting in
        let batch : bc ≡ bd = ap₂ (λ (f : Request → Bool) (qs : List Request). cut R.batch f qs) mine-same a.waiting in
        let v : Core Msg = record c { waiting = uncut R.batch (is_mine R M me c) c.waiting; flight = c.flight ++ (s, bc) ∷ [] } in
        let w : Core Msg = record d { waiting = uncut R.batch (is_mine R M me d) d.waiting; flight = d.flight ++ (s, bd) ∷ [] } in
        let h : AlikeCore v w = record {
          past = a.past;
          waiting = ap₂ (λ (f : Request → Bool) (qs : List Request). uncut R.batch f qs) mine-same a.waiting;
          flight = ap₂ (λ (flight : List (Slot × Batch)) (b : Batch). flight ++ (s, b) ∷ []) a.flight batch;
          early = a.early;
          voted = a.voted;
          leaf = a.leaf;
        } in
        either (not (has_leaves M (params_of R M me c.past me) c.leaf)) (not (has_leaves M (params_of R M me d.past me) d.leaf))
        (ap (λ (b : Bool). not b) (leaves-same c d a me)) (Dropped NoKeys) (Dropped NoKeys)
        (Taken (advance_epochs F R M me (step_unjudged F R M me v me (Cast s bc)))) (Taken (advance_epochs F R M me (step_unjudged F R M me w me (Cast s bd)))) (λ z. refl)
        (λ z. advance-alike (step_unjudged F R M me v me (Cast s bc)) (step_unjudged F R M me w me (Cast s bd))
        (unjudged-alike v w h me (Cast s bc) (Cast s bd) (ap (λ (b : Batch). Cast s b) batch)))

    -- ---- events

    parcel-alike : (from e : ℕ) (b : Body Msg) → AlikeStep (takes_parcel F R M me c from e b) (takes_parcel F R M me d from e b)
    parcel-alike from e (OfRequest q) = request-alike q
    parcel-alike from e (OfModule l msg) = message-alike from e l msg
    parcel-alike from e (OfVote v) = vote-alike v
    parcel-alike from e OfAsk = handed-alike from e
    parcel-alike from e (OfPiece p) = piece-alike p

    bytes-alike : (o : Option (Parcel Msg)) → AlikeStep (takes_bytes F R M me c o) (takes_bytes F R M me d o)
    bytes-alike None = refl
    bytes-alike (Some k) = parcel-alike k.from k.epoch k.body

    pub step-alike : (event : NodeEvent) → AlikeStep (step F R M me c event) (step F R M me d event)
    step-alike (On_packet bytes) = bytes-alike (F.unwrap bytes)
    step-alike On_propose =
        either (not (leads_in R M me c.past me)) (not (leads_in R M me d.past me)) (ap (λ (b : Bool). not b) (leads-alike R M me c.past d.past a.past me))
        (Dropped NotLeader) (Dropped NotLeader) (casts_at F R M me c (next_slot R M me c)) (casts_at F R M me d (next_slot R M me d)) (λ z. refl)
        (λ z. subst (λ (o : Option Slot). AlikeStep (casts_at F R M me c (next_slot R M me c)) (casts_at F R M me d o)) slot-same
        (cast-alike (next_slot R M me c)))
    step-alike (On_timeout l) =
        finish-alike (try_step F R M me c l.0 Timeout) (try_step F R M me d l.0 Timeout) (try-alike c d a l.0 Timeout)
    step-alike (On_ask peer) = asking-alike peer

    body-claims : (from e : ℕ) (b : Body Msg) → claims_of_body R M me c from e b ≡ claims_of_body R M me d from e b
    body-claims from e (OfRequest q) = refl
    body-claims from e (OfVote v) = refl
    body-claims from e OfAsk = refl
    body-claims from e (OfPiece p) = refl
    body-claims from e (OfModule l msg) =
        ap₂ (λ (n : ℕ) (cs : List Claim). cond (eqb e n) cs []) a.past.epoch (read-alike c d a from l msg)

    parcel-claims : (o : Option (Parcel Msg)) → claims_of_parcel R M me c o ≡ claims_of_parcel R M me d o
    parcel-claims None = refl
    parcel-claims (Some k) = body-claims k.from k.epoch k.body

    pub claims-alike : (event : NodeEvent) → claims_at F R M me c event ≡ claims_at F R M me d event
    claims-alike (On_packet bytes) = parcel-claims (F.unwrap bytes)
    claims-alike On_propose = refl
    claims-alike (On_timeout l) = refl
    claims-alike (On_ask peer) = refl
