-- How a node continues with a snapshot, part by part.
use Rattle.std.specs.Prelude.{◌≡◌, ℕ, suc, ◌<◌, ◌-◌, ◌==◌, ◌&&◌, nat_le, cond, Bool, true, false, List, [], ◌∷◌, ◌++◌, length, reverse, ◌^◌, Option, Some, None, Err, Ok, Result}
use Rattle.iss_ballots.specs.Ballots.{AreKept}
use Rattle.iss_checkpoint.specs.declared.votes.Cert.{Cert}
use Rattle.iss_checkpoint.specs.declared.votes.Vote.{Vote}
use Rattle.iss_keys.specs.Directories.{node_secret}
use Rattle.iss_model.specs.Frames.{Frame}
use Rattle.iss_model.specs.Node.{Core, Early as Kept_early, early_most}
use Rattle.iss_rules.specs.declared.events.Why.{Why}
use Rattle.iss_node.specs.Internal.Shape.{AreFrom}
use Rattle.iss_node.specs.Rebuilding.{HasRead}
use Rattle.iss_node.specs.State.{StateRefinesCore, StateView, seen_early}
use Rattle.iss_node.specs.declared.answers.Early.{Early}
use Rattle.iss_rebuilt.specs.Reading.{Rebuilt, are_new}
use Rattle.iss_rebuilt.specs.Stored.{Saved}
use Rattle.iss_node.specs.declared.answers.Outcome.{Outcome}
use Rattle.iss_request.specs.declared.requests.Value.{Value}
use Rattle.iss_rules.specs.Concrete.{rules_of}
use Rattle.iss_rules.specs.Past.{Past, is_complete}
use Rattle.iss_sb.specs.Calls.{Relation}
use Rattle.iss_sb.specs.Evidence.{Module}
use Rattle.iss_snapshot.specs.declared.snapshots.Snapshot.{Snapshot}

-- ---- what is asked of a snapshot

-- each epoch has n values
abbrev pub AreWhole : ℕ → List (List Value) → Type 0
AreWhole n [] = Unit {0}
AreWhole n (values ∷ more) = (length values ≡ n) × AreWhole n more

-- The snapshot goes on by its epochs, each of n values.
pub record IsWhole (n : ℕ) (s : Snapshot) : Type 0 where
  pub above : s.from.0 < s.to.0
  pub count : length s.epochs ≡ s.to.0 - s.from.0
  pub values : AreWhole n s.epochs

-- the least epoch that a certificate may have after this one
abbrev pub after : Option ℕ → ℕ
after None = 0
after (Some e) = suc e

-- It begins where the one before it ended, its next leaf is within the key, and its certificates are new.
abbrev pub continues : {Msg : Type 0} → Frame Msg → Saved → Snapshot → Bool
continues W saved s =
    (s.from.0 == saved.from) && (nat_le s.leaf (2 ^ W.setup.keys) && are_new W saved.held 0 s.certs)

-- ---- the core that continues

-- a core with this past, these certificates and this next leaf, that holds nothing else
abbrev pub emptied : {Msg : Type 0} → Past Msg → List Cert → ℕ → Core Msg
emptied past certs leaf = record {
  past = past;
  waiting = [];
  flight = [];
  early = [];
  votes = [];
  certs = certs;
  leaf = leaf;
}

-- The state refines it, and the epoch is not complete.
pub record IsEmptied {M Msg : Type 0} (m : Module Msg) (refines : Relation M Msg) (v : StateView M Msg)
    (past : Past Msg) (certs : List Cert) (leaf : ℕ) : Type 0 where
  pub core : StateRefinesCore m refines v (emptied past certs leaf)
  pub unfinished : is_complete (rules_of v.setup) m v.me.0 past ≡ false

-- Certificates were kept, and votes, waiting requests and the next leaf replaced.
pub record HasBegun {M Msg : Type 0} (leaf : ℕ) (certs : List Cert) (old new : StateView M Msg) : Type 0 where
  pub kept : (votes : List Vote) (older : List Cert) → AreKept old.ballots votes older →
      AreKept new.ballots [] (reverse certs ++ older)
  pub keys : new.keys ≡ record { secret = node_secret old.me.0; height = old.setup.keys; used = leaf }
  pub rest : new ≡ record old { waiting = []; ballots = new.ballots; keys = new.keys }

-- ---- results

-- whether a step was taken
abbrev pub was_taken : Result Outcome Why → Bool
was_taken (Ok outcome) = true
was_taken (Err why) = false

-- All were taken, and the state refines the core after them; or one is refused.
abbrev pub AreTaken : {M Msg : Type 0} → Module Msg → Relation M Msg → Option (Core Msg) → StateView M Msg → Bool →
    Type 0
AreTaken m refines None v false = Unit {0}
AreTaken m refines None v true = ⊥
AreTaken m refines (Some c) v false = ⊥
AreTaken m refines (Some c) v true = StateRefinesCore m refines v c

-- early messages, if a node keeps that many
abbrev pub kept_early : {Msg : Type 0} → Option (List (Kept_early Msg)) → Option (List (Kept_early Msg))
kept_early None = None
kept_early (Some xs) = cond (nat_le (length xs) early_most) (Some xs) None

-- The snapshot was read as the model reads it, or refused as the model refuses it.
abbrev pub IsReadAs : {M Msg : Type 0} → Module Msg → Relation M Msg → Option (Rebuilt Msg) → StateView M Msg →
    Option (List (Early Msg)) → Type 0
IsReadAs m refines None new None = Unit {0}
IsReadAs m refines None new (Some early) = ⊥
IsReadAs m refines (Some r) new None = ⊥
IsReadAs m refines (Some r) new (Some early) = HasRead m refines new r × (seen_early early ≡ r.core.early)
    × AreFrom new.setup.n early

-- Set-up and identity are the same.
pub record IsSamePlace {M Msg : Type 0} (old new : StateView M Msg) : Type 0 where
  pub setup : new.setup ≡ old.setup
  pub me : new.me ≡ old.me
