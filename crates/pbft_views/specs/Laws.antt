-- What a good certificate has, and what the choice of a new view is, restated without the functions that compute them.
use Rattle.std.specs.Prelude.{◌≡◌, ◌<◌, ◌≤◌, ℕ, ◌+◌, ◌*◌, true, List, [], ◌∷◌, length}
use Rattle.iss_base.specs.Lists.{In}
use Rattle.iss_base.specs.Quorum.{all_below, distinct}
use Rattle.iss_request.specs.Formats.{is_batch}
use Rattle.iss_request.specs.declared.requests.Value.{Value}
use Rattle.iss_request.specs.declared.requests.Value.TheVariants.{Nil as Value_nil}
use Rattle.iss_sb.specs.declared.effects.Params.{Params}
use Rattle.pbft_wire.specs.declared.messages.Certificate.{Certificate}
use Rattle.pbft_wire.specs.declared.messages.Change.{Change}
use Rattle.iss_sb.specs.declared.signers.Signed.{Signed}
use Rattle.pbft_views.specs.Good.{primary}

abbrev pub nodes_of : List Signed → List ℕ
nodes_of [] = []
nodes_of (x ∷ xs) = x.by.0 ∷ nodes_of xs

abbrev pub makers_of : List Change → List ℕ
makers_of [] = []
makers_of (x ∷ xs) = x.node.0 ∷ makers_of xs

-- Prepares of 2f distinct replicas other than the primary, at a slot of the segment; in view 0 the value is a batch
pub record HasVotes (p : Params) (c : Certificate) : Type 0 where
  pub within : In c.slot p.slots
  pub count : length (nodes_of c.prepares) ≡ 2 * p.setup.f
  pub apart : distinct (primary p c.view ∷ nodes_of c.prepares) ≡ true
  pub below : all_below p.setup.n (nodes_of c.prepares) ≡ true
  pub batch : c.view ≡ 0 → is_batch c.value ≡ true

-- ViewChanges of 2f+1 distinct replicas for view v, each with good certificates of lower views
pub record HasChanges (p : Params) (v : ℕ) (xs : List Change) : Type 0 where
  pub count : length (makers_of xs) ≡ 2 * p.setup.f + 1
  pub apart : distinct (makers_of xs) ≡ true
  pub below : all_below p.setup.n (makers_of xs) ≡ true
  pub view : (x : Change) → In x xs → x.view ≡ v
  pub good : (x : Change) → In x xs → (c : Certificate) → In c x.certificates → (c.view < v) × HasVotes p c

-- no certificate of the slot is of a higher view, and none of the same view is shown by a lower replica
pub record IsHighest (xs : List Change) (s : ℕ) (c : Certificate) : Type 0 where
  pub change : Change
  pub stands : In change xs
  pub holds : In c change.certificates
  pub slot : c.slot.0 ≡ s
  pub high : (y : Change) (d : Certificate) → In y xs → In d y.certificates → d.slot.0 ≡ s → d.view ≤ c.view
  pub least : (y : Change) (d : Certificate) → In y xs → In d y.certificates → d.slot.0 ≡ s → d.view ≡ c.view →
      change.node.0 ≤ y.node.0

pub data IsChoice (xs : List Change) (s : ℕ) : Value → Type 0 where
  nothing : ((y : Change) (d : Certificate) → In y xs → In d y.certificates → d.slot.0 ≡ s → ⊥) →
      IsChoice xs s Value_nil
  highest : (c : Certificate) → IsHighest xs s c → IsChoice xs s c.value
