-- The messages of PBFT by kind: a body with its sender's signature.
use Rattle.std.specs.Prelude.{ℕ, List}
use Rattle.iss_request.specs.declared.ids.Slot.{Slot}
use Rattle.iss_request.specs.declared.requests.Value.{Value}
use Rattle.pbft_wire.specs.declared.messages.Body.{Body}
use Rattle.pbft_wire.specs.declared.messages.Body.TheVariants.{PrePrepare as Pre_prepare_body, Prepare as Prepare_body, Commit as Commit_body, ViewChange as View_change_body, NewView as New_view_body}
use Rattle.pbft_wire.specs.declared.messages.Certificate.{Certificate}
use Rattle.pbft_wire.specs.declared.messages.Change.{Change}
use Rattle.pbft_wire.specs.declared.messages.Message.{Message}

abbrev pub signed : Body → List ℕ → Message
signed body sig = record { body = body; sig = sig }

abbrev pub PrePrepare : ℕ → Slot → Value → List ℕ → Message
PrePrepare v slot x sig = signed (Pre_prepare_body v slot x) sig

abbrev pub Prepare : ℕ → Slot → List ℕ → List ℕ → Message
Prepare v slot d sig = signed (Prepare_body v slot d) sig

abbrev pub Commit : ℕ → Slot → List ℕ → List ℕ → Message
Commit v slot d sig = signed (Commit_body v slot d) sig

abbrev pub ViewChange : ℕ → List Certificate → List ℕ → Message
ViewChange v cs sig = signed (View_change_body v cs) sig

abbrev pub NewView : ℕ → List Change → List (List ℕ) → List ℕ → Message
NewView v xs sigs sig = signed (New_view_body v xs sigs) sig
