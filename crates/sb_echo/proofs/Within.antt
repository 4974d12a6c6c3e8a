-- The effects of a step are within its segment, whatever the state.
use Rattle.std.proofs.Common.{◌≡◌, ◌≤◌, ◌+◌, ℕ, true, List, [], Option, Some, None, refl, ap, ◌∙◌, arith}
use Rattle.iss_base.specs.Lists.{In}
use Rattle.iss_base.proofs.Lists.{and-true}
use Rattle.iss_keys.specs.Directories.{AreKeysOf}
use Rattle.iss_keys.specs.KeyStates.{KeyState}
use Rattle.iss_request.specs.declared.ids.Slot.{Slot}
use Rattle.iss_request.specs.declared.requests.Batch.{Batch}
use Rattle.iss_request.specs.declared.requests.Value.{Value}
use Rattle.iss_sb.specs.declared.effects.Effects.{Effects}
use Rattle.iss_sb.specs.declared.effects.Params.{Params}
use Rattle.iss_sb.specs.Calls.{AreToNodes, IsNothing, IsWithin, has_slot}
use Rattle.iss_sb.proofs.Slots.{has_slot-In}
use Rattle.sb_echo.specs.declared.echo.Echo.{Echo}
use Rattle.sb_echo.specs.declared.word.Word.{Word}
use Rattle.sb_echo.specs.Echo.{echo}
use Rattle.sb_echo.specs.Internal.Refines.{HasTaken, is_free, one_at}
use Rattle.sb_echo.proofs.Marks.{one-within}

pub nothing-within : (p : Params) (k : KeyState) (e : Effects Word) → IsNothing e → IsWithin echo p k k e
nothing-within p k e nothing = record {
  delivered = let none = nothing.delivers in rw none tt;
  accepted = let none = nothing.accepted in rw none tt;
  addressed = let none = nothing.sends in rw none tt;
  same_secret = refl;
  same_height = refl;
  leaves = omega arith;
  few = omega arith;
}

-- the step of an echo: it sends nothing, and delivers at its slot
pub echo-within : (p : Params) (k : KeyState) (e : Effects Word) (slot : Slot) (v : Option Value) →
    has_slot slot.0 p.slots ≡ true →
    e.sends ≡ [] → e.accepted ≡ None → e.delivers ≡ one_at slot v → IsWithin echo p k k e
echo-within p k e slot v within sends accepted delivers = record {
  delivered = rw delivers (one-within slot v p.slots (has_slot-In slot p.slots within));
  accepted = rw accepted tt;
  addressed = rw sends tt;
  same_secret = refl;
  same_height = refl;
  leaves = omega arith;
  few = omega arith;
}

abbrev pub with_used : KeyState → ℕ → KeyState
with_used k count = record k { used = k.used + count }

-- a step that accepts a batch
pub taken-within : (p : Params) (m n : Echo) (slot : Slot) (batch : Batch) (d : List ℕ) (e f : Effects Word) (before later : KeyState) (count : ℕ) → is_free m p slot.0 ≡ true → HasTaken p m n slot batch d e →
    f.accepted ≡ e.accepted → f.delivers ≡ e.delivers → AreToNodes p.setup.n f.sends → later ≡ with_used before count → count ≤ 2 → IsWithin echo p before later f
taken-within p m n slot batch d e f before later count free h accepted delivers addressed used few =
    let t = and-true (has_slot slot.0 p.slots) _ free in
    let here : In slot p.slots = has_slot-In slot p.slots t.0 in
    let given = delivers ∙ h.delivers in
    let taken : f.accepted ≡ Some (slot, batch) = accepted ∙ h.accepted in
    record {
      delivered = rw given (one-within slot _ p.slots here);
      accepted = rw taken here;
      addressed = addressed;
      same_secret = rw used refl;
      same_height = rw used refl;
      leaves = rw used (omega arith);
      few = rw used (omega arith);
    }

-- ---- used leaves

pub none-used : (k u : ℕ) → u ≡ 0 → k ≡ k + u
none-used k u h = omega (arith, h)

pub some-used : (before later : KeyState) (count u : ℕ) → later ≡ with_used before count → u ≡ count →
    later.used ≡ before.used + u
some-used before later count u h e = let used = ap (λ (k : KeyState). k.used) h in omega (arith, used, e)

pub twice-used : (before mid later : KeyState) → mid ≡ with_used before 1 → later ≡ with_used mid 1 →
    later ≡ with_used before 2
twice-used before mid later h k = let n : before.used + 1 + 1 ≡ before.used + 2 = omega arith in k ∙ ap (λ (z : KeyState). with_used z 1) h ∙ ap (λ (n : ℕ). record before { used = n }) n

-- the owner of the keys does not depend on how many are used
pub same-owner : (me height : ℕ) (before later : KeyState) (count : ℕ) → later ≡ with_used before count →
    AreKeysOf me height before → AreKeysOf me height later
same-owner me height before later count h own = record { own = ap (λ (k : KeyState). k.secret) h ∙ own.own; tall = ap (λ (k : KeyState). k.height) h ∙ own.tall }
