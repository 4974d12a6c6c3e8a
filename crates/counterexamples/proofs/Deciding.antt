-- A module with another rule for what is decided reaches the same worlds: its messages are the same.
use Rattle.std.proofs.Common.{ℕ, Bool, true, false, List, Option}
use Rattle.iss_request.specs.declared.requests.Value.{Value}
use Rattle.iss_sb.specs.declared.effects.Input.{Input}
use Rattle.iss_sb.specs.declared.effects.Input.TheVariants.{Cast, Receive, Timeout}
use Rattle.iss_sb.specs.declared.effects.Params.{Params}
use Rattle.iss_sb.specs.Evidence.{Item, Module, World, IsReached, IsSigned, MayArrive, MayCome, Move, at_start, after}

abbrev Rule : Type 0 → Type 0
Rule M = Params → ℕ → List (Item M) → ℕ → Option Value

abbrev pub deciding : {M : Type 0} → Module M → Rule M → Module M
deciding m rule = record m { decided = rule }

signed-too : {M : Type 0} (m : Module M) (rule : Rule M) (p : Params) (w : World M) (i : ℕ) (st : List ℕ) →
    IsSigned m p w i st → IsSigned (deciding m rule) p w i st
signed-too m rule p w i st h = record {
  item = h.item;
  taken = h.taken;
  to = h.to;
  msg = h.msg;
  sent = h.sent;
  claim = h.claim;
  made = h.made;
  by = h.by;
  is = h.is;
}

arrives-too : {M : Type 0} (m : Module M) (rule : Rule M) (p : Params) (w : World M) (stopping : Bool) (i from : ℕ) (msg : M) →
    MayArrive stopping m p w i from msg → MayArrive stopping (deciding m rule) p w i from msg
arrives-too m rule p w true i from msg h = h
arrives-too m rule p w false i from msg h = record {
  named = h.named;
  read = h.read;
  verified = h.verified;
  signed = λ c k q. signed-too m rule p w c.by.0 c.statement (h.signed c k q);
}

comes-too : {M : Type 0} (m : Module M) (rule : Rule M) (p : Params) (w : World M) (i : ℕ) (input : Input M) →
    MayCome m p w i input → MayCome (deciding m rule) p w i input
comes-too m rule p w i (Cast slot batch) h = h
comes-too m rule p w i (Receive from msg) h = arrives-too m rule p w m.stopping i from.0 msg h
comes-too m rule p w i Timeout h = h

moves-too : {M : Type 0} (m : Module M) (rule : Rule M) (p : Params) (w later : World M) → Move m p w later →
    Move (deciding m rule) p w later
moves-too m rule p w later h = record {
  node = h.node;
  correct = h.correct;
  input = h.input;
  may = comes-too m rule p w h.node h.input h.may;
  leaf = h.leaf;
  takes = h.takes;
  others = h.others;
}

pub reached-too : {M : Type 0} (m : Module M) (rule : Rule M) (p : Params) (v : World M) → IsReached m p v →
    IsReached (deciding m rule) p v
reached-too m rule p v at_start = at_start
reached-too m rule p v (after {w} {later} r move) =
    after (reached-too m rule p w r) (moves-too m rule p w later move)
