-- What a new view proposes at a slot, given the ViewChanges that it begins with: the value of the certificate of the
-- highest view, that of the lowest node on a tie, and nil if there is none (PBFT).
use Rattle.std.specs.Prelude.{ℕ, ◌==◌, cond, nat_lt, List, [], ◌∷◌, ◌++◌, Option, Some, None}
use Rattle.iss_request.specs.declared.requests.Value.{Value}
use Rattle.iss_request.specs.declared.requests.Value.TheVariants.{Nil as Value_nil}
use Rattle.pbft_wire.specs.declared.messages.Certificate.{Certificate}
use Rattle.pbft_wire.specs.declared.messages.Change.{Change}

-- the certificate of the higher view, the first one in a tie
abbrev pub higher : Certificate → Option Certificate → Option Certificate
higher c None = Some c
higher c (Some e) = cond (nat_lt c.view e.view) (Some e) (Some c)

-- the same, if there may be no first one
abbrev pub further : Option Certificate → Option Certificate → Option Certificate
further None e = e
further (Some c) e = higher c e

-- the certificate of the highest view at slot s, the first one in a tie
abbrev pub best : ℕ → List Certificate → Option Certificate
best s [] = None
best s (c ∷ cs) = cond (c.slot.0 == s) (higher c (best s cs)) (best s cs)

abbrev pub certificates_of : List Change → List Certificate
certificates_of [] = []
certificates_of (x ∷ xs) = x.certificates ++ certificates_of xs

abbrev pub value_or_nil : Option Certificate → Value
value_or_nil None = Value_nil
value_or_nil (Some c) = c.value

-- the value of the certificate of the highest view at the slot, else nil. In a tie it is that of the lowest replica,
-- since the senders ascend
-- rule: PBFT: A new view proposes the value of the certificate of the highest view, else nil
abbrev pub choice : List Change → ℕ → Value
choice xs s = value_or_nil (best s (certificates_of xs))
