-- What PBFT's replicas sign: the instance, the kind of the message, and its fields. Numbers are encoded so that
-- different ones differ, whatever their size.
--
--   1 PrePrepare, 2 Prepare, 3 Commit   view, slot, the value's digest
--   4 ViewChange                        view, count, and slot, view, the value's digest of each certificate
--   5 NewView                           view
use Rattle.std.specs.Prelude.{ℕ, List, [], ◌∷◌, ◌++◌, length}
use Rattle.iss_request.specs.Digest.{digest}
use Rattle.iss_request.specs.Formats.{value_string}
use Rattle.iss_request.specs.declared.requests.Value.{Value}
use Rattle.iss_sb.specs.declared.effects.Params.{Params}
use Rattle.iss_sb.specs.Statements.{eight_bytes, statement_head, two_bytes}
use Rattle.pbft_wire.specs.declared.messages.Body.{Body}
use Rattle.pbft_wire.specs.declared.messages.Body.TheVariants.{PrePrepare, Prepare, Commit, ViewChange, NewView}
use Rattle.pbft_wire.specs.declared.messages.Certificate.{Certificate}

abbrev pub tag : ℕ
tag = 3

-- what is hashed of a value, and its digest
abbrev pub string_of : Params → Value → List ℕ
string_of p x = value_string p.setup.version x

abbrev pub digest_of : Params → Value → List ℕ
digest_of p x = digest (string_of p x)

-- a statement of this kind and view
abbrev pub statement : Params → ℕ → ℕ → List ℕ → List ℕ
statement p kind v fields = statement_head p tag ++ (kind ∷ (two_bytes v ++ fields))

-- the statement of a PrePrepare, a Prepare or a Commit
-- rule: PBFT: A signature covers the instance, kind, view, slot and digest
abbrev pub state_at : Params → ℕ → ℕ → ℕ → List ℕ → List ℕ
state_at p kind v s d = statement p kind v (eight_bytes s ++ d)

-- what is signed of these certificates: slot, view and digest of each
abbrev pub marks : Params → List Certificate → List ℕ
marks p [] = []
marks p (c ∷ cs) = eight_bytes c.slot.0 ++ (two_bytes c.view ++ (digest_of p c.value ++ marks p cs))

-- rule: PBFT: A ViewChange signs the slot, view and digest of each prepared certificate
abbrev pub state_change : Params → ℕ → List Certificate → List ℕ
state_change p v cs = statement p 4 v (length cs ∷ marks p cs)

abbrev pub state_new : Params → ℕ → List ℕ
state_new p v = statement p 5 v []

-- the statement of a body, which its sender signs
abbrev pub stated : Params → Body → List ℕ
stated p (PrePrepare v slot x) = state_at p 1 v slot.0 (digest_of p x)
stated p (Prepare v slot d) = state_at p 2 v slot.0 d
stated p (Commit v slot d) = state_at p 3 v slot.0 d
stated p (ViewChange v cs) = state_change p v cs
stated p (NewView v xs sigs) = state_new p v
