-- A snapshot is read as a core with the slim part of the one that it was made of.
use Rattle.std.proofs.Common.{◌≡◌, inl, inr, ℕ, suc, ◌+◌, ◌-◌, ◌<◌, ◌^◌, ◌&&◌, ◌||◌, Bool, true, false, cond, eqb, not, nat_le, is_some, List, [], ◌∷◌, ◌++◌, length, reverse, Option, Some, None, refl, sym, ap, ap₂, ◌∙◌, subst, arith, append-nil, true≢false}
use Rattle.std.proofs.lemmas.Bool.{le-leb}
use Rattle.std.proofs.lemmas.Bool.Decides.{leb_tells}
use Rattle.std.specs.List.{filter}
use Rattle.iss_base.specs.Lists.{In, below}
use Rattle.iss_base.proofs.Lists.{both, eqb-same, none-some}
use Rattle.iss_checkpoint.specs.declared.votes.Cert.{Cert}
use Rattle.iss_checkpoint.specs.declared.votes.Vote.{Vote}
use Rattle.iss_request.specs.Log.{log_ids}
use Rattle.iss_request.specs.declared.requests.Value.{Value}
use Rattle.iss_rules.specs.Past.{Past, adopted_at, before_own, cut_at, log_of}
use Rattle.iss_rules.specs.Votes.{cert_on, is_open}
use Rattle.iss_rules.proofs.Ending.{HasSlots}
use Rattle.iss_model.specs.Frames.{Frame}
use Rattle.iss_model.specs.Node.{Core, Early, early_most}
use Rattle.iss_model.specs.Slims.{IsPlaced, slim}
use Rattle.iss_model.proofs.AlikeSlims.{alike-slims}
use Rattle.iss_snapshot.specs.declared.snapshots.Snapshot.{Snapshot}
use Rattle.iss_rebuilt.specs.Storable.{IsBehind, IsReadBack, IsStorable, adopted_of, past_of}
use Rattle.iss_rebuilt.specs.Reading.{Rebuilt, adopts_epochs, are_new, continued, early_each, keeps_packets, reads_snapshot, takes_requests, takes_votes}
use Rattle.iss_rebuilt.specs.Stored.{epochs_of, saved_after, new_certs, packets_of, snapshot_of}
use Rattle.iss_rebuilt.proofs.Pieced.{adopting, log-is, pieces-none, reached}
use Rattle.iss_rebuilt.proofs.Refilling.{are-new, certs-far, certs-held, certs-new, packets, votes, waiting_in, waits}

pub open-in : (p : Vote → Bool) (vs : List Vote) (v : Vote) → In v (filter p vs) → p v ≡ true
open-in p [] v h = absurd h
open-in p (w ∷ ws) v h = go (p w) refl h (open-in p ws v)
  where
    go : (b : Bool) → p w ≡ b → In v (cond b (w ∷ filter p ws) (filter p ws)) → (In v (filter p ws) → p v ≡ true) → p v ≡ true
    go true q (inl e) ih = ap (λ (z : Vote). p z) e ∙ q
    go true q (inr i) ih = ih i
    go false q i ih = ih i

pub kept-all : (p : Vote → Bool) (vs : List Vote) → ((v : Vote) → In v vs → p v ≡ true) → filter p vs ≡ vs
kept-all p [] h = refl
kept-all p (v ∷ vs) h =
    ap (λ (b : Bool). cond b (v ∷ filter p vs) (filter p vs)) (h v (inl refl)) ∙ ap (λ (ws : List Vote). v ∷ ws) (kept-all p vs (λ w i. h w (inr i)))

pub none-open : (o : Option Cert) → not (is_some o) ≡ true → o ≡ None
none-open None h = refl
none-open (Some c) h = absurd (true≢false (sym h))

some-there : (o : Option Cert) → is_some o ≡ true → (c : Cert) × (o ≡ Some c)
some-there None h = absurd (true≢false (sym h))
some-there (Some c) h = (c, refl)

pub none-there : (o : Option Cert) → is_some o ≡ false → o ≡ None
none-there None h = refl
none-there (Some c) h = absurd (true≢false h)

module _ {Msg : Type 0} (W : Frame Msg) (slots : HasSlots W.rules) (me : ℕ) (r : Rebuilt Msg) (d : Core Msg) (h : IsStorable W me d) (b : IsBehind W me r d) where
  abbrev log : List Value
  log = log_of W.rules W.spec me d.past

  abbrev n : ℕ
  n = d.past.epoch

  abbrev snap : Snapshot
  snap = snapshot_of W me r.saved d

  -- ---- certificates

  abbrev certs : List Cert
  certs = reverse (new_certs r.saved.held d.certs (below (suc (suc n)))) ++ r.core.certs

  certs-are : (e : ℕ) → cert_on certs e ≡ cert_on d.certs e
  certs-are e = go (r.saved.held e) refl
    where
      go : (t : Bool) → r.saved.held e ≡ t → cert_on certs e ≡ cert_on d.certs e
      go true q =
          let c = some-there (cert_on r.core.certs e) (sym (b.holds e) ∙ q) in
          certs-held r.saved.held d.certs r.core.certs (suc (suc n)) e q ∙ (c.1 ∙ sym (b.certs e c.0 c.1))
      go false q =
          let none : cert_on r.core.certs e ≡ None = none-there (cert_on r.core.certs e) (sym (b.holds e) ∙ q) in
          elim (leb_tells (suc e) (suc (suc n))) [
            | inl t ↦ certs-new r.saved.held d.certs r.core.certs (suc (suc n)) e t.1 q none
            | inr t ↦
                certs-far r.saved.held d.certs r.core.certs (suc (suc n)) e (let le = t.1 in omega (arith, le))
                ∙ (none ∙ sym (h.near e (let le = t.1 in omega (arith, le))))
          ]

  -- ---- the core part by part

  abbrev past : Past Msg
  past = past_of W log n

  abbrev votes_open : List Vote
  votes_open = filter (is_open d.certs) d.votes

  abbrev begun : Core Msg
  begun = record { past = past; waiting = []; flight = []; early = []; votes = []; certs = certs; leaf = d.leaf }

  past-is : adopts_epochs r.core.past (epochs_of W log r.saved.from (n - r.saved.from)) ≡ past
  past-is =
      ap (λ (p : Past Msg). adopts_epochs p (epochs_of W log r.saved.from (n - r.saved.from))) b.past
      ∙ (adopting W slots me log r.saved.from (n - r.saved.from)
      ∙ ap (λ (k : ℕ). past_of W log k) (let low = b.low in let q : r.saved.from + (n - r.saved.from) ≡ n = omega (arith, low) in q))

  resumed-is : continued r snap ≡ begun
  resumed-is = ap (λ (p : Past Msg). record { past = p; waiting = []; flight = []; early = []; votes = []; certs = certs; leaf = d.leaf }) past-is

  logs-are : log_of W.rules W.spec me past ≡ log
  logs-are = log-is W slots me log n h.placed.reached ∙ h.exact

  before-are : before_own W.rules W.spec me past ≡ before_own W.rules W.spec me d.past
  before-are = ap (λ (xs : List Value). cut_at W.rules xs n) logs-are

  waiting-is : takes_requests W me d.waiting (Some begun) ≡ Some (waiting_in begun d.waiting)
  waiting-is =
      waits W me begun refl d.waiting [] h.different h.signed
      (λ q i k. h.unordered q i (subst (λ (xs : List Value). In q.id (log_ids xs)) logs-are k))
      (λ q i. ap (λ (xs : List Value). W.rules.inside xs n q.id) before-are ∙ h.inside q i)

  abbrev filled : Core Msg
  filled = record { past = past; waiting = d.waiting; flight = []; early = []; votes = votes_open; certs = certs; leaf = d.leaf }

  votes-are : takes_votes W (reverse votes_open) (Some (waiting_in begun d.waiting)) ≡ Some filled
  votes-are =
      votes W me (waiting_in begun d.waiting) votes_open h.counted
      (λ v i. certs-are v.epoch.0 ∙ none-open (cert_on d.certs v.epoch.0) (open-in (is_open d.certs) d.votes v i))

  abbrev made : Core Msg
  made = record { past = past; waiting = d.waiting; flight = []; early = d.early; votes = votes_open; certs = certs; leaf = d.leaf }

  abbrev next : Rebuilt Msg
  next = record { core = made; saved = saved_after r.saved snap }

  core-read : takes_votes W (reverse votes_open) (takes_requests W me d.waiting (Some (continued r snap))) ≡ Some filled
  core-read =
      ap (λ (c : Core Msg). takes_votes W (reverse votes_open) (takes_requests W me d.waiting (Some c))) resumed-is
      ∙ (ap (λ (o : Option (Core Msg)). takes_votes W (reverse votes_open) o) waiting-is ∙ votes-are)

  tests : (eqb snap.from.0 r.saved.from && (nat_le snap.leaf (2 ^ W.setup.keys) && are_new W r.saved.held 0 snap.certs)) ≡ true
  tests =
      both (eqb snap.from.0 r.saved.from) _ (eqb-same r.saved.from)
      (both (nat_le snap.leaf (2 ^ W.setup.keys)) _ (le-leb d.leaf (2 ^ W.setup.keys) h.leaves)
      (are-new W r.saved.held d.certs h.certified (suc (suc n))).0)

  abbrev body : Option (Rebuilt Msg)
  body = keeps_packets (saved_after r.saved snap) (early_each W n (packets_of W n d.early)) (takes_votes W (reverse votes_open) (takes_requests W me d.waiting (Some (continued r snap))))

  read-is : reads_snapshot W me r snap ≡ Some next
  read-is =
      ap (λ (t : Bool). cond t body None) tests
      ∙ (ap₂ (λ (x : Option (List (Early Msg))) (o : Option (Core Msg)). keeps_packets (saved_after r.saved snap) x o) (packets W me n d.early h.read) core-read
      ∙ ap (λ (t : Bool). cond t (Some next) None) (le-leb (length d.early) early_most h.few))

  -- ---- it has the slim part of the core that was entered

  below-own : (e k : ℕ) (v : Value) → adopted_at (adopted_of W log n) e k ≡ Some v → e < n
  below-own e k v q = elim (leb_tells n e) [
    | inl t ↦ absurd (none-some v (sym (pieces-none W slots me log n e k t.1) ∙ q))
    | inr t ↦ t.1
  ]

  made-placed : IsPlaced W.rules W.spec me made
  made-placed = record { unborn = λ e l lt. refl; settled = below-own; reached = reached W slots me log n h.placed.reached }

  slims-are : slim W.rules W.spec me made ≡ slim W.rules W.spec me d
  slims-are = alike-slims W.formats W.rules slots W.spec me made d (record {
    past = record {
      placed = record { bounded = record { evidence = made-placed.unborn; adopted = made-placed.settled }; reached = made-placed.reached };
      other = record { bounded = record { evidence = h.placed.unborn; adopted = h.placed.settled }; reached = h.placed.reached };
      epoch = refl;
      log = logs-are;
      taken = λ k l le. sym (h.fresh k l le);
    };
    waiting = refl;
    flight = sym h.landed;
    early = refl;
    voted = record {
      certs_are = certs-are;
      votes_are = kept-all (is_open certs) votes_open
          (λ v i. ap (λ (o : Option Cert). not (is_some o)) (certs-are v.epoch.0) ∙ open-in (is_open d.certs) d.votes v i);
    };
    leaf = refl;
  })

  -- the certificates that the snapshot itself holds
  alone : (e : ℕ) → r.saved.held e ≡ false → cert_on (reverse snap.certs) e ≡ cert_on d.certs e
  alone e q =
      ap (λ (t : List Cert). cert_on t e) (sym (append-nil (reverse snap.certs)))
      ∙ elim (leb_tells (suc e) (suc (suc n))) [
        | inl t ↦ certs-new r.saved.held d.certs [] (suc (suc n)) e t.1 q refl
        | inr t ↦
            certs-far r.saved.held d.certs [] (suc (suc n)) e (let le = t.1 in omega (arith, le))
            ∙ sym (h.near e (let le = t.1 in omega (arith, le)))
      ]

  holds-are : (e : ℕ) → (r.saved.held e || is_some (cert_on (reverse snap.certs) e)) ≡ is_some (cert_on certs e)
  holds-are e = go (r.saved.held e) refl
    where
      go : (t : Bool) → r.saved.held e ≡ t → (t || is_some (cert_on (reverse snap.certs) e)) ≡ is_some (cert_on certs e)
      go true q =
          let c = some-there (cert_on r.core.certs e) (sym (b.holds e) ∙ q) in
          sym (ap (λ (o : Option Cert). is_some o) (certs-are e ∙ b.certs e c.0 c.1))
      go false q = ap (λ (o : Option Cert). is_some o) (alone e q ∙ sym (certs-are e))

  pub snapshot-read : IsReadBack W me r d
  snapshot-read = record {
    next = next;
    is = read-is;
    saved = refl;
    slims = slims-are;
    placed = made-placed;
    behind = record {
      low = omega arith;
      past = refl;
      holds = holds-are;
      certs = λ e c q. sym (certs-are e) ∙ q;
    };
  }
