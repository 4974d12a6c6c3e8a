-- A step of a correct core takes an input, or ends its epoch and votes. Each is a move of the cluster.
use Rattle.std.proofs.Common.{◌≡◌, ◌≢◌, ◌⊎◌, inl, inr, ℕ, suc, ◌≤◌, Bool, true, false, cond, List, [], ◌++◌, length, reverse, Some, None, refl, sym, ap, ◌∙◌, subst, arith}
use Rattle.iss_base.specs.Lists.{Extends, In, push_all}
use Rattle.iss_base.proofs.Lists.{in_append, in_left, in_right, same_or_not, some-injective}
use Rattle.iss_network.specs.Network.{Network}
use Rattle.iss_network.specs.declared.packets.Sent.{Sent}
use Rattle.iss_request.specs.Log.{requests}
use Rattle.iss_request.specs.declared.requests.Value.{Value}
use Rattle.iss_request.specs.declared.setups.Setup.{Setup}
use Rattle.iss_sb.specs.declared.effects.Claim.{Claim}
use Rattle.iss_sb.specs.declared.effects.Input.{Input}
use Rattle.iss_sb.specs.declared.effects.Params.{Params}
use Rattle.iss_sb.specs.declared.effects.To.{To}
use Rattle.iss_sb.specs.Evidence.{Made, Module, is_correct}
use Rattle.iss_theorems.specs.Certified.{IsLogAt}
use Rattle.iss_composition.specs.Checkpoints.{scheme_of}
use Rattle.iss_rules.specs.Books.{Signed}
use Rattle.iss_composition.specs.Cluster.{AllSpelled, Cluster, IsHashedLog, IsOneOf, IsOwn, Message, Moved, Scheme, chain, chain_strings, ends, move, vote_of, vote_statement}
use Rattle.iss_rules.specs.Parcels.{Formats, OfModule, OfVote, Parcel}
use Rattle.iss_rules.specs.Verdicts.{verdict_in}
use Rattle.iss_model.specs.Node.{Core, Turn, grown_strings, step_unjudged, joined, then_turn, own_claims, packed, vote_on, ends as ends_turn}
use Rattle.iss_rules.specs.Past.{Past, advanced, before, cut_at, ended_log, is_complete, leads_in, log_of, made_in, params_of, start_of, takes}
use Rattle.iss_rules.specs.Rules.{Rules}
use Rattle.iss_model.specs.Run.{Held, as_signed, booked, posted_all, turned_to}
use Rattle.iss_rules.proofs.Faithful.{is_message}
use Rattle.iss_model.specs.Runs.{pasts_of}
use Rattle.iss_theorems.proofs.StoppedRuns.BookIsComplete.{ends-booked, takes-booked}
use Rattle.iss_model.proofs.Casts.{bounded-core, ends-ready, inputs-ready, settled-core}
use Rattle.iss_rules.proofs.Ending.{advanced-later, advanced-log, complete-far}
use Rattle.iss_rules.proofs.Epochs.{start-cut}
use Rattle.iss_theorems.proofs.Refinement.Invariant.{Fits, Premises, more-posted, view}
use Rattle.iss_composition.proofs.Good.{Good}
use Rattle.iss_theorems.proofs.Refinement.StepsHashChains.{grown-hashed}
use Rattle.iss_rules.proofs.Logs.{Later, later-refl, log-chain, log-later, takes-later}
use Rattle.iss_composition.proofs.Moves.{good-moved}
use Rattle.iss_theorems.proofs.Refinement.PacketsHoldSends.{posted-append, posted-in, told, told-is}
use Rattle.iss_model.proofs.Rows.{IsFit, then_ends, then_reads, then_takes}
use Rattle.iss_theorems.proofs.Refinement.LoggedValuesAreEncodable.{log-read, loose, loose-strings, loosen, read-spelled}
use Rattle.iss_theorems.proofs.Checkpoints.VotesDescribeLogs.{log-at-later, voted-later}
use Rattle.iss_composition.proofs.Statements.{apart, leader-far, votes as votes_same}
use Rattle.iss_theorems.proofs.Refinement.DeliveryChecks.{booked-first, booked-last, booked-split, own-is}
use Rattle.iss_theorems.proofs.Refinement.ClusterDuringStep as turned
use Rattle.iss_model.proofs.Twins.{addressee-core, core-low, faultless}
use Rattle.iss_theorems.proofs.Checkpoints.VotesAreForChains.{end-chain, end-requests, voted-is}

module _ {Msg : Type 0} (s : Setup) (F : Formats Msg) (R : Rules) (M : Module Msg) (o : Premises s F R M) (h : Held Msg) (ok : Fits s F R M h)
    (i : ℕ) (correct : is_correct s i ≡ true) where
  abbrev S : Scheme
  S = scheme_of s

  abbrev pub Turned : Turn Msg → Type 0
  Turned t = turned.Turned s F R M o h ok i correct t

  abbrev Apart : Turn Msg → Type 0
  Apart t = turned.Apart s F R M o h ok i correct t

  abbrev pub Holds : Turn Msg → Type 0
  Holds t = Apart t → Turned t

  abbrev pub Comes : Turn Msg → ℕ → Input Msg → Type 0
  Comes t l input = turned.Comes s F R M o h ok i correct t l input

  abbrev seen : Turn Msg → List (Message Msg) → Cluster Msg
  seen t messages = view s F R M (turned_to s h i t) messages

  pub here : (t : Turn Msg) → pasts_of (turned_to s h i t).net i ≡ t.core.past
  here t = turned.past-here s F R M o h ok i t

  pub other : (t : Turn Msg) (j : ℕ) → j ≢ i → pasts_of (turned_to s h i t).net j ≡ pasts_of h.net j
  other t j ne = turned.past-there s F R M o h ok i t j ne

  pub there : (t : Turn Msg) (P : Past Msg → Type 0) → P t.core.past → P (pasts_of (turned_to s h i t).net i)
  there t P k = turned.there s F R M o h ok i t P k

  string-old : (t : Turn Msg) (f : Core Msg → Turn Msg) (x : List ℕ) → In x (push_all t.strings h.hashed) → In x (push_all (then_turn t f).strings h.hashed)
  string-old t f x m = turned.string-old s F R M o h ok i correct t f x m

  string-new : (t : Turn Msg) (f : Core Msg → Turn Msg) (x : List ℕ) → In x (f t.core).strings → In x (push_all (then_turn t f).strings h.hashed)
  string-new t f x m = turned.string-new s F R M o h ok i correct t f x m

  -- the strings that a step hashes as its log grows are all that is new in the chain
  pub grown-all : (old new : List Value) → Extends old new → (all : List (List ℕ)) → IsHashedLog S all old → ((x : List ℕ) → In x (grown_strings R old new) → In x all) →
      IsHashedLog S all new
  grown-all old new longer all was fresh x m = elim (grown-hashed s old new longer x m) [
    | inl a ↦ was x a
    | inr b ↦ fresh x (subst (λ (xs : List (List ℕ)). In x xs) (sym (o.voting.hashes old (reverse (joined (length old) new)))) b)
  ]

  -- an input is taken in the instance of l
  module _ (t : Turn Msg) (l : ℕ) (input : Input Msg) (k : Turned t) (fit : IsFit F R M i t.core l input) (come : Comes t l input) where
    abbrev d : Past Msg
    d = t.core.past

    abbrev e : ℕ
    e = d.epoch

    abbrev u : Turn Msg
    u = then_takes F R M i t l input

    abbrev made : Made Msg
    made = made_in R M i d l input t.core.leaf

    abbrev p : Params
    p = params_of R M i d l

    abbrev own : List Claim
    own = own_claims M p i made.sends

    abbrev fresh : List (Message Msg)
    fresh = told s i e l made.sends

    abbrev later_past : Past Msg
    later_past = takes R M i d l input t.core.leaf

    abbrev taking : Core Msg → Turn Msg
    taking c = step_unjudged F R M i c l input

    taken_later : Later R d later_past
    taken_later = takes-later R M i d l input t.core.leaf (settled-core F R M i t.core k.ready.sound)

    longer : Extends (log_of R M i d) (log_of R M i later_past)
    longer = log-later R M i d later_past taken_later

    made_string : (x : List ℕ) → In x made.strings → In x (push_all u.strings h.hashed)
    made_string x m = string-new t taking x (in_left x made.strings (grown_strings R (log_of R M i d) (log_of R M i later_past)) m)

    hashed : IsHashedLog S (push_all u.strings h.hashed) (log_of R M i later_past)
    hashed = grown-all (log_of R M i d) (log_of R M i later_past) longer (push_all u.strings h.hashed) (λ x m. string-old t taking x (k.hashed x m))
        (λ x m. string-new t taking x (in_right x made.strings (grown_strings R (log_of R M i d) (log_of R M i later_past)) m))

    is_own : (x : Signed) → In x (booked s i own) → IsOwn M p i made.sends x
    is_own x m = own-is M p i made.sends x (subst (λ (b : Bool). In x (cond b (as_signed own) [])) correct m)

    older : (x : Signed) → In x (booked s i t.own ++ h.signed) → In x (booked s i u.own ++ h.signed)
    older x m = elim (in_append x (booked s i t.own) h.signed m) [
      | inl a ↦ in_left x (booked s i u.own) h.signed (booked-first s i t.own own x a)
      | inr b ↦ in_right x (booked s i u.own) h.signed b
    ]

    newer : (x : Signed) → In x (as_signed own) → In x (booked s i u.own ++ h.signed)
    newer x m =
        in_left x (booked s i u.own) h.signed (booked-last s i t.own own x (subst (λ (b : Bool). In x (cond b (as_signed own) [])) (sym correct) m))

    moved : (S₂ : Scheme) → IsHashedLog S₂ (push_all u.strings h.hashed) (log_of R M i later_past) → AllSpelled S₂ (log_of R M i later_past) →
        Moved s S₂ R M (seen t k.messages) (seen u (fresh ++ k.messages)) i l input t.core.leaf
    moved S₂ log_hashed log_spelled = record {
      correct = correct;
      leads = there t (λ (y : Past Msg). leads_in R M i y l ≡ true) fit.leads;
      comes = turned.may-take s F R M o h ok i correct t k l input fit come;
      judged = there t (λ (y : Past Msg). verdict_in R M i y l input ≡ None) fit.judged;
      here = here u ∙ ap (λ (y : Past Msg). takes R M i y l input t.core.leaf) (sym (here t));
      other = λ j ne. other u j ne ∙ sym (other t j ne);
      messages = λ st m z. there t (λ (y : Past Msg). IsOneOf i y.epoch l (made_in R M i y l input t.core.leaf).sends m ⊎ In m k.messages)
          (elim (in_append m fresh k.messages z) [ inl a ↦ inl (told-is s (faultless s R M o.sound st) i e l made.sends m a) | inr b ↦ inr b ]);
      book = λ x m. there t
          (λ (y : Past Msg). IsOwn M (params_of R M i y l) i (made_in R M i y l input t.core.leaf).sends x ⊎ In x (booked s i t.own ++ h.signed))
          (elim (in_append x (booked s i u.own) h.signed m) [
            | inl a ↦ elim (booked-split s i t.own own x a) [ inl y ↦ inr (in_left x (booked s i t.own) h.signed y) | inr y ↦ inl (is_own x y) ]
            | inr b ↦ inr (in_right x (booked s i t.own) h.signed b)
          ]);
      old_book = older;
      fresh_strings = λ x m. made_string x (subst (λ (y : Past Msg). In x (made_in R M i y l input t.core.leaf).strings) (here t) m);
      strings = λ x m. string-old t taking x m;
      hashed = there u (λ (y : Past Msg). IsHashedLog S₂ (push_all u.strings h.hashed) (log_of R M i y)) log_hashed;
      spelled = there u (λ (y : Past Msg). AllSpelled S₂ (log_of R M i y)) log_spelled;
    }

    takes-spelled : Apart u → AllSpelled S (log_of R M i later_past)
    takes-spelled sep v m =
        let v₀ : Cluster Msg = seen t k.messages in
        let w : Cluster Msg = seen u (fresh ++ k.messages) in
        let g = loosen s R M v₀ S (turned.good-at s F R M o v₀ (turned.less-apart s F R M o h ok i correct t taking sep) k.reach) in
        let loose_hashed : IsHashedLog (loose S) (push_all u.strings h.hashed) (log_of R M i later_past) =
        λ x z. hashed x (subst (λ (xs : List (List ℕ)). In x xs) (loose-strings S (log_of R M i later_past)) z) in
        let gw : Good s R M w (loose S) =
        good-moved s (loose S) R M o.safe o.law o.sound v₀ w sep g i l input t.core.leaf (moved (loose S) loose_hashed (λ v m. refl)) in
        let later : Later R (w.pasts i) later_past =
        there u (λ (y : Past Msg). Later R y later_past) (later-refl R later_past (record { all = k.ready.sound.settled })) in
        read-spelled s v (log-read s (loose S) R M o.safe o.sound o.voting w sep gw i correct later_past later
        (there u (λ (y : Past Msg). (e l : ℕ) → later_past.evidence e l ≡ y.evidence e l) (λ e l. refl)) k.pieces
        (log_of R M i later_past) (log-chain R M i later_past) v m)

    takes-turned : Apart u → Turned u
    takes-turned sep = record {
      messages = fresh ++ k.messages;
      reach = move i l input t.core.leaf k.reach (moved S hashed (takes-spelled sep));
      posted = λ st q m.
          let net : Network = posted_all s h.net.network i t.sends in
          let m2 : In q (posted_all s net i (packed F i e l made.sends)).packets =
          subst (λ (v : Network). In q v.packets) (posted-append s h.net.network i t.sends (packed F i e l made.sends)) m in
          elim (posted-in s F i e l made.sends net q m2) [
            | inl a ↦ more-posted s F R M fresh k.messages q (k.posted st q a)
            | inr r ↦ record {
              low_to = core-low s (faultless s R M o.sound st) q.to (addressee-core s r.to q.to r.addressed);
              carried = λ x j msg un b. in_left _ fresh k.messages (read-told st q x j r.msg msg r.bytes un b r.is_told);
            }
          ];
      ready = inputs-ready F R M i t.core l input k.ready;
      booked = takes-booked R M i t.core k.ready.sound l input t.core.leaf (booked s i u.own ++ h.signed)
          (λ a b y z x w. older x (k.booked a b y z x w)) newer;
      early = λ st x m. in_right _ fresh k.messages (k.early st x m);
      old = λ m z. in_right m fresh k.messages (k.old m z);
      hashed = hashed;
      pieces = k.pieces;
      certified = record { votes = k.certified.votes; certs = k.certified.certs };
      mine = λ x m. elim (booked-split s i t.own own x m) [ inl y ↦ k.mine x y | inr y ↦ ap (λ (z : Signed). z.by) (is_own x y).is ];
      standing = λ n a q m. log-at-later R M i d later_past taken_later k.ready.sound.reached n a q (k.standing n a q (no_vote n a q m));
      voted = voted-later R M i d later_past taken_later k.ready.sound.reached (booked s i t.own ++ h.signed) (booked s i u.own ++ h.signed) older k.voted;
    }
      where
        -- a module signs no vote
        no_vote : (n : ℕ) (a : List ℕ) (q : ℕ) → In (record { by = i; statement = vote_statement s n a q }) (booked s i u.own ++ h.signed) →
            In (record { by = i; statement = vote_statement s n a q }) (booked s i t.own ++ h.signed)
        no_vote n a q m = elim (in_append _ (booked s i u.own) h.signed m) [
          | inr b ↦ in_right _ (booked s i t.own) h.signed b
          | inl b ↦ elim (booked-split s i t.own own _ b) [
            | inl y ↦ in_left _ (booked s i t.own) h.signed y
            | inr y ↦
                let w = is_own _ y in
                let bf : List Value = before R M i d e in
                let named = turned.claim-names s F R M o bf e l i w.msg w.claim w.made in
                absurd (apart s M w.claim.statement e l n a q (leader-far s M R o.sound bf e l fit.leads) named (sym (ap (λ (z : Signed). z.statement) w.is)))
          ]
        ]

        -- what is read of a packet with a message is that message
        read-told : M.stopping ≡ true → (q : Sent) (x : Parcel Msg) (j : ℕ) (sent msg : Msg) → q.bytes ≡ F.wrap (record { from = i; epoch = e; body = OfModule l sent }) →
            F.unwrap q.bytes ≡ Some x → x.body ≡ OfModule j msg → In (record { from = i; to = q.to; epoch = e; leader = l; msg = sent }) fresh →
            In (record { from = x.from; to = q.to; epoch = x.epoch; leader = j; msg = msg }) fresh
        read-told st q x j sent msg bytes un b m =
            elim (o.faithful.messages i e l sent (turned.node-low s F R M o h ok i correct) (turned.leader-low s F R M o h ok i correct d l fit.leads)) [
              | inl z ↦
                  let q2 : x ≡ record { from = i; epoch = e; body = OfModule l sent } = sym (some-injective _ x (sym z ∙ (sym (ap F.unwrap bytes) ∙ un))) in
                  let same : OfModule l sent ≡ OfModule j msg = sym (ap (λ (y : Parcel Msg). y.body) q2) ∙ b in
                  let l2 : l ≡ j = cc in
                  let m2 : sent ≡ msg = cc in
                  rw (ap (λ (y : Parcel Msg). y.from) q2, ap (λ (y : Parcel Msg). y.epoch) q2, ← l2, ← m2) m
              | inr z ↦ absurd (turned.unread s F R M o h ok i x (sym z ∙ (sym (ap F.unwrap bytes) ∙ un)))
            ]

  pub takes-fits : (t : Turn Msg) (l : ℕ) (input : Input Msg) → Holds t → IsFit F R M i t.core l input → Comes t l input → Holds (then_takes F R M i t l input)
  takes-fits t l input k fit come sep =
      takes-turned t l input (k (turned.less-apart s F R M o h ok i correct t (λ c. step_unjudged F R M i c l input) sep)) fit come sep

  pub reads-fits : (t : Turn Msg) (claims : List Claim) → Holds t → Holds (then_reads F R M i t claims)
  reads-fits t claims hold sep = let k = hold sep in record {
    messages = k.messages;
    reach = k.reach;
    posted = k.posted;
    ready = k.ready;
    booked = k.booked;
    early = k.early;
    old = k.old;
    hashed = k.hashed;
    pieces = k.pieces;
    certified = k.certified;
    mine = k.mine;
    standing = k.standing;
    voted = k.voted;
  }

  -- the node ends its epoch, and votes
  module _ (t : Turn Msg) (k : Turned t) (sep : Apart (then_ends F R M i t)) (complete : is_complete R M i t.core.past ≡ true) where
    abbrev full : Past Msg
    full = t.core.past

    abbrev closed : Turn Msg
    closed = then_ends F R M i t

    abbrev ending : Core Msg → Turn Msg
    ending c = ends_turn F R M i c

    abbrev vote : List Claim
    vote = (ending t.core).own

    same_log : log_of R M i (advanced full) ≡ log_of R M i full
    same_log = advanced-log R (turned.slots s F R M o) M i full (bounded-core F R M i t.core k.ready.sound)

    kept_book : (x : Signed) → In x (booked s i t.own ++ h.signed) → In x (booked s i closed.own ++ h.signed)
    kept_book x m = elim (in_append x (booked s i t.own) h.signed m) [
      | inl a ↦ in_left x (booked s i closed.own) h.signed (booked-first s i t.own vote x a)
      | inr b ↦ in_right x (booked s i closed.own) h.signed b
    ]

    is_vote : (x : Signed) → In x (booked s i vote) → (x.by ≡ i) × (x.statement ≡ vote_of s S R M i full)
    is_vote x m = elim (subst (λ (b : Bool). In x (cond b (as_signed vote) [])) correct m) [
      | inl q ↦ (
        ap (λ (y : Signed). y.by) q,
        ap (λ (y : Signed). y.statement) q ∙ voted-is s R o.voting full.epoch (ended_log R M i full),
      )
      | inr none ↦ absurd none
    ]

    closed_hashed : IsHashedLog S (push_all closed.strings h.hashed) (log_of R M i (advanced full))
    closed_hashed x m = string-old t ending x (k.hashed x (subst (λ (log : List Value). In x (chain_strings S log)) same_log m))

    closed_good : Good s R M (seen t k.messages) S
    closed_good = turned.good-at s F R M o (seen t k.messages) (turned.less-apart s F R M o h ok i correct t ending sep) k.reach

    closed_spelled : AllSpelled S (log_of R M i (advanced full))
    closed_spelled = subst (λ (log : List Value). AllSpelled S log) (sym same_log)
        (subst (λ (y : Past Msg). AllSpelled S (log_of R M i y)) (here t) (closed_good.spelled i correct))

    pub ends-turned : Turned closed
    ends-turned = record {
      messages = k.messages;
      reach = ends i k.reach (record {
        correct = correct;
        complete = there t (λ (y : Past Msg). is_complete R M i y ≡ true) complete;
        here = here closed ∙ ap (λ (y : Past Msg). advanced y) (sym (here t));
        other = λ j ne. other closed j ne ∙ sym (other t j ne);
        quiet = record { messages = λ st m z. z; old_book = kept_book; strings = λ x m. string-old t ending x m };
        book = λ x m. there t (λ (y : Past Msg). In x (booked s i t.own ++ h.signed) ⊎ ((x.by ≡ i) × (x.statement ≡ vote_of s S R M i y)))
            (elim (in_append x (booked s i closed.own) h.signed m) [
              | inl a ↦ elim (booked-split s i t.own vote x a) [ inl y ↦ inl (in_left x (booked s i t.own) h.signed y) | inr y ↦ inr (is_vote x y) ]
              | inr b ↦ inl (in_right x (booked s i t.own) h.signed b)
            ]);
        hashed = there closed (λ (y : Past Msg). IsHashedLog S (push_all closed.strings h.hashed) (log_of R M i y)) closed_hashed;
        spelled = there closed (λ (y : Past Msg). AllSpelled S (log_of R M i y)) closed_spelled;
      });
      posted = λ st q m.
          let net : Network = posted_all s h.net.network i t.sends in
          let m2 : In q (posted_all s net i (ending t.core).sends).packets =
          subst (λ (v : Network). In q v.packets) (posted-append s h.net.network i t.sends (ending t.core).sends) m in
          turned.silent-posted s F R M o st i (ending t.core).sends silent net k.messages (k.posted st) q m2;
      ready = ends-ready F R M i (turned.slots s F R M o) o.windows t.core k.ready complete;
      booked = ends-booked R M i t.core k.ready.sound (booked s i closed.own ++ h.signed) (λ a b y z x w. kept_book x (k.booked a b y z x w));
      early = λ st x m. absurd m;
      old = k.old;
      hashed = closed_hashed;
      pieces = k.pieces;
      certified = record { votes = k.certified.votes; certs = k.certified.certs };
      mine = λ x m. elim (booked-split s i t.own vote x m) [ inl y ↦ k.mine x y | inr y ↦ (is_vote x y).0 ];
      standing = λ n a q m. elim (in_append _ (booked s i closed.own) h.signed m) [
        | inr b ↦ old_standing n a q (in_right _ (booked s i t.own) h.signed b)
        | inl b ↦ elim (booked-split s i t.own vote _ b) [
          | inl y ↦ old_standing n a q (in_left _ (booked s i t.own) h.signed y)
          | inr y ↦ new_standing n a q (is_vote _ y).1
        ]
      ];
      voted = λ n lt. elim (same_or_not n full.epoch) [
        | inl q ↦ inr (subst (λ (z : ℕ). In (record {
          by = i;
          statement = R.voted z (R.end (before R M i (advanced full) (suc z))).chain
              (R.end (before R M i (advanced full) (suc z))).requests;
        }) (booked s i closed.own ++ h.signed)) (sym q) now_voted)
        | inr ne ↦ voted-later R M i full (advanced full) ended_later k.ready.sound.reached (booked s i t.own ++ h.signed) (booked s i closed.own ++ h.signed)
            kept_book k.voted n (omega (arith, lt, ne))
      ];
    }
      where
        ended_later : Later R full (advanced full)
        ended_later = advanced-later R full (record { all = k.ready.sound.settled })

        old_standing : (n : ℕ) (a : List ℕ) (q : ℕ) → In (record { by = i; statement = vote_statement s n a q }) (booked s i t.own ++ h.signed) →
            IsLogAt R M i n (advanced full) a q
        old_standing n a q m = log-at-later R M i full (advanced full) ended_later k.ready.sound.reached n a q (k.standing n a q m)

        -- the log at the end of the epoch
        cut_same : before R M i (advanced full) (suc full.epoch) ≡ ended_log R M i full
        cut_same = ap (λ (log : List Value). cut_at R log (suc full.epoch)) same_log

        far : start_of R (log_of R M i full) (suc full.epoch) ≤ length (log_of R M i full)
        far = complete-far R (turned.slots s F R M o) M i full (bounded-core F R M i t.core k.ready.sound) complete

        new_standing : (n : ℕ) (a : List ℕ) (q : ℕ) → vote_statement s n a q ≡ vote_of s S R M i full → IsLogAt R M i n (advanced full) a q
        new_standing n a q is =
            let log : List Value = ended_log R M i full in
            let same = votes_same s n full.epoch a (chain S log) q (requests log) is in
            let now : IsLogAt R M i full.epoch (advanced full) a q = record {
              over = omega arith;
              whole = subst (λ (xs : List Value). start_of R xs (suc full.epoch) ≡ length xs) (sym cut_same) (start-cut R (log_of R M i full) (suc full.epoch) far);
              chain = subst (λ (xs : List Value). a ≡ (R.end xs).chain) (sym cut_same) (same.1 ∙ sym (end-chain s R o.voting log));
              number = subst (λ (xs : List Value). q ≡ (R.end xs).requests) (sym cut_same) (same.2 ∙ sym (end-requests s R o.voting log));
            } in
            subst (λ (z : ℕ). IsLogAt R M i z (advanced full) a q) (sym same.0) now

        now_voted : In (record {
          by = i;
          statement = R.voted full.epoch (R.end (before R M i (advanced full) (suc full.epoch))).chain
              (R.end (before R M i (advanced full) (suc full.epoch))).requests;
        }) (booked s i closed.own ++ h.signed)
        now_voted = subst (λ (log : List Value). In (record { by = i; statement = R.voted full.epoch (R.end log).chain (R.end log).requests })
            (booked s i closed.own ++ h.signed)) (sym cut_same)
            (in_left _ (booked s i closed.own) h.signed (booked-last s i t.own vote _
            (subst (λ (b : Bool). In (record {
              by = i;
              statement = R.voted full.epoch (R.end (ended_log R M i full)).chain
                  (R.end (ended_log R M i full)).requests;
            }) (cond b (as_signed vote) [])) (sym correct) (inl refl))))

        silent : (x : To × List ℕ) → In x (ending t.core).sends → (j : Parcel Msg) × (is_message j.body ≡ false) × (x.1 ≡ F.wrap j)
        silent x (inl q) =
            (record { from = i; epoch = full.epoch; body = OfVote (vote_on R M i t.core) }, refl, ap (λ (y : To × List ℕ). y.1) q)
        silent x (inr none) = absurd none

  pub ends-fits : (t : Turn Msg) → Holds t → is_complete R M i t.core.past ≡ true → Holds (then_ends F R M i t)
  ends-fits t k complete sep = ends-turned t (k (turned.less-apart s F R M o h ok i correct t (λ c. ends_turn F R M i c) sep)) sep complete
