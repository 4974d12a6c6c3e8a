-- A module accepts and decides at slots of its segment.
use Rattle.std.proofs.Common.{◌≡◌, ℕ, List, Some}
use Rattle.iss_base.specs.Lists.{In}
use Rattle.iss_request.specs.declared.ids.Slot.{Slot}
use Rattle.iss_request.specs.declared.requests.Batch.{Batch}
use Rattle.iss_request.specs.declared.requests.Value.{Value}
use Rattle.iss_sb.specs.declared.content.Content.{Content}
use Rattle.iss_sb.specs.declared.content.Content.TheVariants.{Nil, Holds, Mark}
use Rattle.iss_sb.specs.declared.effects.Input.{Input}
use Rattle.iss_sb.specs.declared.effects.Params.{Params}
use Rattle.iss_sb.specs.Evidence.{Item, Module}
use Rattle.hs_views.specs.Batches.{offered_at}
use Rattle.hs_views.proofs.BatchesOnce.{unless-In}

abbrev pub AsksInside : {M : Type 0} → Module M → Type 0
AsksInside {M} m = (p : Params) (me : ℕ) (xs : List (Item M)) (i : Input M) (x : Slot × Batch) → m.asks p me xs i ≡ Some x → In x.0 p.slots

abbrev pub DecidesInside : {M : Type 0} → Module M → Type 0
DecidesInside {M} m = (p : Params) (me : ℕ) (xs : List (Item M)) (s : Slot) (x : Value) → m.decided p me xs s.0 ≡ Some x → In s p.slots

pub offered-In : (p : Params) (old : List (Slot × Batch)) (what : Content) (place : ℕ) (x : Slot × Batch) → offered_at p old what place ≡ Some x → In x.0 p.slots
offered-In p old Nil place x h = absurd cc
offered-In p old (Holds b) place x h = unless-In old b p.slots place x h
offered-In p old Mark place x h = absurd cc
