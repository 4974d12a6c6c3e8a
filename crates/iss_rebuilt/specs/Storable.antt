-- What a snapshot needs of the core that it holds, and what of the snapshots before it.
use Rattle.std.specs.Prelude.{◌≡◌, ℕ, zero, suc, is_some, ◌≤◌, ◌<◌, ◌^◌, true, List, [], ◌∷◌, Some, None, length}
use Rattle.std.specs.List.{filter}
use Rattle.iss_base.specs.Lists.{Different, In}
use Rattle.iss_checkpoint.specs.declared.votes.Cert.{Cert}
use Rattle.iss_checkpoint.specs.declared.votes.Vote.{Vote}
use Rattle.iss_request.specs.Log.{ids, log_ids}
use Rattle.iss_request.specs.declared.requests.Request.{Request}
use Rattle.iss_request.specs.declared.requests.Value.{Value}
use Rattle.iss_rules.specs.Past.{Past, Piece, before_own, cut_at, log_of}
use Rattle.iss_rules.specs.Rules.{Rules}
use Rattle.iss_rules.specs.Votes.{all_verify, cert_on, claim_of_vote, is_open, is_true_cert, stable, vote_by}
use Rattle.iss_model.specs.Frames.{Frame}
use Rattle.iss_model.specs.Node.{Core, Early, early_most, values_of}
use Rattle.iss_model.specs.Slims.{IsPlaced, slim}
use Rattle.iss_rebuilt.specs.Reading.{Rebuilt, reads_snapshot}
use Rattle.iss_rebuilt.specs.Stored.{early_parcel, saved_after, snapshot_of}

-- Votes, newest first, each of which is counted over the older ones and completes no certificate.
abbrev pub AreCounted : Rules → ℕ → List Vote → Type 0
AreCounted R e [] = Unit {0}
AreCounted R e (v ∷ vs) =
    (v.epoch.0 ≤ suc e) × (all_verify R (claim_of_vote R v ∷ []) ≡ true) × (vote_by vs v.epoch.0 v.by.0 ≡ None)
    × (stable R (v ∷ vs) v ≡ []) × AreCounted R e vs

-- the epochs of a log, adopted one after the other by a core that took nothing
abbrev pub adopted_of : {Msg : Type 0} → Frame Msg → List Value → ℕ → List Piece
adopted_of W log zero = []
adopted_of W log (suc n) = record { epoch = n; values = values_of W.rules log n } ∷ adopted_of W log n

abbrev pub past_of : {Msg : Type 0} → Frame Msg → List Value → ℕ → Past Msg
past_of W log n = record { epoch = n; evidence = λ e l. []; adopted = adopted_of W log n }

-- What snapshots led to, seen from a later core of the replica that wrote them: the front of its log, and the
-- certificates that they saved.
pub record IsBehind {Msg : Type 0} (W : Frame Msg) (me : ℕ) (r : Rebuilt Msg) (d : Core Msg) : Type 0 where
  pub low : r.saved.from ≤ d.past.epoch
  pub past : r.core.past ≡ past_of W (log_of W.rules W.spec me d.past) r.saved.from
  pub holds : (e : ℕ) → r.saved.held e ≡ is_some (cert_on r.core.certs e)
  pub certs : (e : ℕ) (c : Cert) → cert_on r.core.certs e ≡ Some c → cert_on d.certs e ≡ Some c

-- A core that has just entered its epoch, with the messages that it takes next. A snapshot of it is read again.
pub record IsStorable {Msg : Type 0} (W : Frame Msg) (me : ℕ) (d : Core Msg) : Type 0 where
  pub placed : IsPlaced W.rules W.spec me d
  -- nothing was taken in its epoch, the log ends where the epoch begins, and nothing is in flight
  pub fresh : (k l : ℕ) → d.past.epoch ≤ k → d.past.evidence k l ≡ []
  pub exact : cut_at W.rules (log_of W.rules W.spec me d.past) d.past.epoch ≡ log_of W.rules W.spec me d.past
  pub landed : d.flight ≡ []
  -- the waiting requests would be taken again
  pub different : Different (ids d.waiting)
  pub signed : (q : Request) → In q d.waiting → W.rules.signed q ≡ true
  pub inside : (q : Request) → In q d.waiting →
      W.rules.inside (before_own W.rules W.spec me d.past) d.past.epoch q.id ≡ true
  pub unordered : (q : Request) → In q d.waiting → In q.id (log_ids (log_of W.rules W.spec me d.past)) → ⊥
  -- certificates are true and at most one epoch ahead, and the open votes would be counted again
  pub certified : (e : ℕ) (c : Cert) → cert_on d.certs e ≡ Some c → is_true_cert W.rules c ≡ true
  pub near : (e : ℕ) → suc d.past.epoch < e → cert_on d.certs e ≡ None
  pub counted : AreCounted W.rules d.past.epoch (filter (is_open d.certs) d.votes)
  -- the early messages would be kept again
  pub few : length d.early ≤ early_most
  pub read : (x : Early Msg) → In x d.early →
      W.formats.unwrap (W.formats.wrap (early_parcel d.past.epoch x)) ≡ Some (early_parcel d.past.epoch x)
  pub leaves : d.leaf ≤ 2 ^ W.setup.keys

-- What is read of the snapshot of a core: what is saved with it, and a core with the slim part of that one.
pub record IsReadBack {Msg : Type 0} (W : Frame Msg) (me : ℕ) (r : Rebuilt Msg) (d : Core Msg) : Type 0 where
  pub next : Rebuilt Msg
  pub is : reads_snapshot W me r (snapshot_of W me r.saved d) ≡ Some next
  pub saved : next.saved ≡ saved_after r.saved (snapshot_of W me r.saved d)
  pub slims : slim W.rules W.spec me next.core ≡ slim W.rules W.spec me d
  pub placed : IsPlaced W.rules W.spec me next.core
  pub behind : IsBehind W me next d
