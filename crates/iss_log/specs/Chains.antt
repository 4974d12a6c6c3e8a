-- The digest chain that identifies a log. A value is hashed behind the byte 64, and a link behind 66: the digest of
-- the log before, and that of the value. The chain of no value is the digest of no byte. An end is a chain and the
-- number of requests up to it.
use Rattle.std.specs.Prelude.{◌≡◌, ℕ, suc, ◌+◌, ◌≤◌, List, [], ◌∷◌, ◌++◌, length, take, Some, slice_get}
use Rattle.iss_request.specs.Digest.{digest}
use Rattle.iss_request.specs.Formats.{value_string}
use Rattle.iss_request.specs.Log.{requests, size_of}
use Rattle.iss_request.specs.declared.requests.Value.{Value}
use Rattle.iss_log.specs.declared.chains.End.{End}

abbrev pub link_string : List ℕ → List ℕ → List ℕ
link_string before value = 0x42 ∷ (before ++ value)

-- the string hashed to link a value to the chain
abbrev pub value_link : ℕ → List ℕ → Value → List ℕ
value_link version before v = link_string before (digest (value_string version v))

-- the chain digest with one more value
abbrev pub linked : ℕ → List ℕ → Value → List ℕ
linked version before v = digest (value_link version before v)

-- what is hashed for a value: its string, and the link's
abbrev pub strings_of : ℕ → List ℕ → Value → List (List ℕ)
strings_of version before v = value_string version v ∷ value_link version before v ∷ []

-- the chain digest with these values added, and all that is hashed for them
-- rule: Log: The chain of a log links the digest of each value, also of nil, to the chain before it
abbrev pub chain_from : ℕ → List ℕ → List Value → List ℕ
chain_from version before [] = before
chain_from version before (v ∷ vs) = chain_from version (linked version before v) vs

abbrev pub strings_from : ℕ → List ℕ → List Value → List (List ℕ)
strings_from version before [] = []
strings_from version before (v ∷ vs) = strings_of version before v ++ strings_from version (linked version before v) vs

-- the chain digest of a log
abbrev pub chain_of : ℕ → List Value → List ℕ
chain_of version log = chain_from version (digest []) log

-- what identifies a log, and the same with one more value
-- rule: Log: The end of a log counts requests, not slots
abbrev pub end_of : ℕ → List Value → End
end_of version log = record { chain = chain_of version log; requests = requests log }

abbrev pub next_end : ℕ → End → Value → End
next_end version before v = record { chain = linked version before.chain v; requests = before.requests + size_of v }

abbrev pub end_from : ℕ → End → List Value → End
end_from version before [] = before
end_from version before (v ∷ vs) = end_from version (next_end version before v) vs

-- ---- what is kept: an end for each prefix of the log

pub record ChainsState : Type 0 where
  pub version : ℕ
  pub ends : List End

pub record IsChainOf (c : ChainsState) (log : List Value) : Type 0 where
  pub size : length c.ends ≡ suc (length log)
  pub ends : (k : ℕ) → k ≤ length log → slice_get c.ends k ≡ Some (end_of c.version (take k log))
