-- What echo's code holds, and when it refines a list of inputs: for each slot what was taken, whether it was
-- delivered, and which echoes were heard.
use Rattle.std.specs.Prelude.{◌≡◌, ℕ, ◌==◌, ◌&&◌, ◌∷◌, nat_le, Bool, true, not, List, [], Option, Some, None, is_some, if◌then◌else◌}
use Rattle.std.specs.BTreeMap.{get}
use Rattle.std.specs.Ordering.{nat_cmp}
use Rattle.iss_base.specs.Quorum.{count_below}
use Rattle.iss_request.specs.declared.ids.NodeId.{NodeId}
use Rattle.iss_request.specs.declared.ids.Slot.{Slot}
use Rattle.iss_request.specs.declared.requests.Batch.{Batch}
use Rattle.iss_request.specs.declared.requests.Value.{Value}
use Rattle.iss_request.specs.declared.requests.Value.TheVariants.{Batch as Value_batch}
use Rattle.iss_sb.specs.declared.effects.Effects.{Effects}
use Rattle.iss_sb.specs.declared.effects.Params.{Params}
use Rattle.iss_sb.specs.Calls.{has_slot}
use Rattle.iss_sb.specs.Evidence.{Item}
use Rattle.sb_echo.specs.declared.echo.Echo.{Echo}
use Rattle.sb_echo.specs.declared.echo.Place.{Place}
use Rattle.sb_echo.specs.declared.echo.Place.TheVariants.{Waiting, Delivered}
use Rattle.sb_echo.specs.declared.word.Word.{Word}
use Rattle.sb_echo.specs.Echo.{decided, digest_of, has_echo, string_of, taken}
use Rattle.sb_echo.specs.Heard.{has}

-- the state of a slot
abbrev pub place_at : ℕ → Echo → Option Place
place_at s m = get nat_cmp m.places s

-- the state of a slot, from the batch that was accepted there and the decided value
abbrev pub place_for : Params → Option Batch → Option Value → Option Place
place_for p None v = None
place_for p (Some b) None = Some (Waiting (digest_of p b) (Value_batch b))
place_for p (Some b) (Some v) = Some Delivered

-- the state represents the history: at each slot the accepted batch, with its digest until it is decided, and at the
-- slots of the segment the echoes
pub record Refines (m : Echo) (p : Params) (me : ℕ) (xs : List (Item Word)) : Type 0 where
  pub node : m.me.0 ≡ me
  pub places : (s : ℕ) → place_at s m ≡ place_for p (taken s xs) (decided p me xs s)
  pub heard : (s : ℕ) (d : List ℕ) (k : ℕ) → has_slot s p.slots ≡ true → has m.heard s d k ≡ has_echo s d k xs

-- ---- the tests of the code, over its state

abbrev pub is_free : Echo → Params → ℕ → Bool
is_free m p s = has_slot s p.slots && not (is_some (place_at s m))

abbrev pub may_cast : Echo → Params → Slot → Bool
may_cast m p slot = (m.me.0 == p.leader.0) && is_free m p slot.0

abbrev pub may_take : Echo → Params → NodeId → Slot → Bool
may_take m p from slot = (from.0 == p.leader.0) && is_free m p slot.0

-- whether a quorum echoed the digest at the slot
abbrev pub is_heard : Echo → Params → ℕ → List ℕ → Bool
is_heard m p s d = nat_le p.setup.quorum (count_below (λ k. has m.heard s d k) p.setup.n)

-- the value that waits, if a quorum echoed its digest
abbrev pub completed_of : Echo → Params → ℕ → Option Place → Option Value
completed_of m p s None = None
completed_of m p s (Some Delivered) = None
completed_of m p s (Some (Waiting d v)) = if is_heard m p s d then Some v else None

abbrev pub completed : Echo → Params → ℕ → Option Value
completed m p s = completed_of m p s (place_at s m)

abbrev pub is_complete : Echo → Params → ℕ → Bool
is_complete m p s = is_some (completed m p s)

-- ---- what the parts of a step do

-- the delivery at one slot
abbrev pub one_at : Slot → Option Value → List (Slot × Value)
one_at slot None = []
one_at slot (Some x) = (slot, x) ∷ []

-- a batch was accepted at a slot: it waits, or is delivered if a quorum had echoed it
pub record HasTaken (p : Params) (old new : Echo) (slot : Slot) (batch : Batch) (d : List ℕ)
    (e : Effects Word) : Type 0 where
  pub digest : d ≡ digest_of p batch
  pub node : new.me ≡ old.me
  pub heard : new.heard ≡ old.heard
  pub places : (s : ℕ) →
      place_at s new ≡
      (if slot.0 == s then Some (if is_heard old p slot.0 d then Delivered else Waiting d (Value_batch batch)) else
      place_at s old)
  pub sends : e.sends ≡ []
  pub accepted : e.accepted ≡ Some (slot, batch)
  pub hashed : e.hashed ≡ string_of p batch ∷ []
  pub delivers : e.delivers ≡ one_at slot (if is_heard old p slot.0 d then Some (Value_batch batch) else None)

-- if a quorum had echoed the value that waited at the slot, it was returned, and the slot marked as delivered
pub record HasCompleted (p : Params) (old new : Echo) (slot : Slot) (v : Option Value) : Type 0 where
  pub value : v ≡ completed old p slot.0
  pub node : new.me ≡ old.me
  pub heard : new.heard ≡ old.heard
  pub places : (s : ℕ) → place_at s new ≡ (if (slot.0 == s) && is_some v then Some Delivered else place_at s old)
