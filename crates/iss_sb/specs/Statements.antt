-- What signed statements begin with: the cluster's tag, epoch, leader and the module's number. Numbers are encoded so
-- that different ones have different bytes, whatever their size.
use Rattle.std.specs.Prelude.{ℕ, ◌/◌, ◌^◌, List, [], ◌∷◌, ◌++◌}
use Rattle.std.specs.Int.{bytes_high_first}
use Rattle.iss_keys.specs.Directories.{node_secret}
use Rattle.iss_keys.specs.Signatures.{signature_of}
use Rattle.iss_sb.specs.declared.effects.Claim.{Claim}
use Rattle.iss_sb.specs.declared.effects.Params.{Params}

-- A number in low + 1 bytes, high first. If it does not fit, its first byte holds all that is left (more than 255). So
-- different numbers have different bytes.
unfoldable pub wide_bytes : ℕ → ℕ → List ℕ
wide_bytes low n = n / 256 ^ low ∷ bytes_high_first low n

abbrev pub two_bytes : ℕ → List ℕ
two_bytes n = wide_bytes 1 n

abbrev pub four_bytes : ℕ → List ℕ
four_bytes n = wide_bytes 3 n

abbrev pub eight_bytes : ℕ → List ℕ
eight_bytes n = wide_bytes 7 n

-- the cluster's digest, an epoch, a leader, and a module's tag
-- rule: Signatures: A statement names its cluster, epoch, leader, module and kind
abbrev pub head_of : List ℕ → ℕ → ℕ → ℕ → List ℕ
head_of cluster e l tag = cluster ++ eight_bytes e ++ l ∷ tag ∷ []

-- the start of every statement of an instance
abbrev pub statement_head : Params → ℕ → List ℕ
statement_head p tag = head_of p.setup.tag p.epoch.0 p.leader.0 tag

-- the signature of node me by a leaf of its key
-- rule: Signatures: A node signs exactly its statement, with its next leaf
abbrev pub signature : Params → ℕ → ℕ → List ℕ → List ℕ
signature p me leaf statement = signature_of (node_secret me) p.setup.keys leaf statement

-- the claim that this node signed the statement with this signature
abbrev pub claim : ℕ → List ℕ → List ℕ → Claim
claim by statement sig = record { by = record { 0 = by }; statement = statement; sig = sig }
