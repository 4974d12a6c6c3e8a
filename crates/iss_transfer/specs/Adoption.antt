-- When a replica adopts the values of a piece: the epoch and length fit, the certificate is true, and the values lead
-- from its log to what the certificate says. The first test that fails is the reason of a refusal. Then the log is the
-- one before the epoch with these values behind it.
use Rattle.std.specs.Prelude.{◌≡◌, ℕ, ◌*◌, ◌==◌, ◌&&◌, not, Bool, true, if◌then◌else◌, List, [], ◌++◌, length, take}
use Rattle.iss_base.specs.Lists.{In, same_bytes}
use Rattle.iss_keys.specs.Directories.{DirectoryView, VerifiesBy}
use Rattle.iss_log.specs.Chains.{end_of, strings_from, chain_of}
use Rattle.iss_log.specs.declared.chains.End.{End}
use Rattle.iss_request.specs.Digest.{digest}
use Rattle.iss_request.specs.Fields.{IsReadAgain}
use Rattle.iss_request.specs.Formats.{parse_value, spell_value}
use Rattle.iss_request.specs.declared.requests.Value.{Value}
use Rattle.iss_request.specs.declared.setups.Setup.{Setup}
use Rattle.iss_sb.specs.Evidence.{is_correct}
use Rattle.iss_checkpoint.specs.declared.votes.Cert.{Cert}
use Rattle.iss_checkpoint.specs.Votes.{Voters, is_cert, vote_statement}
use Rattle.iss_transfer.specs.declared.adopting.Adoption.{Adoption}
use Rattle.iss_transfer.specs.declared.adopting.Adoption.TheVariants.{Adopt, WrongEpoch, BadCert, WrongChain}
use Rattle.iss_transfer.specs.declared.pieces.Piece.{Piece}

-- the log before epoch e, and that log followed by the values of a piece
abbrev pub log_before : Setup → List Value → ℕ → List Value
log_before s log e = take (e * s.epoch) log

abbrev pub adopted_log : Setup → List Value → ℕ → Piece → List Value
adopted_log s log e p = log_before s log e ++ p.values

-- the piece and its certificate are of epoch e, with one value for each slot
abbrev pub has_shape : Setup → ℕ → Piece → Bool
has_shape s e p = (p.epoch.0 == e) && ((p.cert.epoch.0 == e) && (length p.values == s.epoch))

-- what the certificate states of the log
abbrev pub said_in : Cert → End
said_in c = record { chain = c.chain; requests = c.requests }

abbrev pub same_end : End → End → Bool
same_end ours theirs = (ours.requests == theirs.requests) && same_bytes ours.chain theirs.chain

-- A piece is adopted if it has the shape of epoch e, its certificate is valid, and its values lead to the log that the
-- certificate states. Otherwise the result is the first of these that fails.
-- rule: Transfer: A piece is adopted if it is whole, its certificate good, and its values match the chain
abbrev pub adoption : Setup → Voters → List Value → ℕ → Piece → Adoption
adoption s w log e p =
    let ours = end_of s.version (adopted_log s log e p) in
    if not (has_shape s e p) then WrongEpoch
    else if not (is_cert w p.cert) then BadCert
    else if not (same_end ours (said_in p.cert)) then WrongChain ours (said_in p.cert)
    else Adopt (strings_from s.version (chain_of s.version (log_before s log e)) p.values)

-- a correct node signed that its log at the end of epoch e has this log's chain digest and number of requests
-- rule: Transfer: What is adopted has a chain and count that a correct node signed
pub record IsSaidByCorrect (s : Setup) (d : DirectoryView) (e : ℕ) (log : List Value) : Type 0 where
  pub node : ℕ
  pub sig : List ℕ
  pub correct : is_correct s node ≡ true
  pub signed : VerifiesBy d.nodes node
      (vote_statement s.tag e (end_of s.version log).chain (end_of s.version log).requests) sig

-- ---- what was hashed for a log

-- each value has an encoding, and all strings of the log's chain are in the list
pub record IsHashed (version : ℕ) (all : List (List ℕ)) (log : List Value) : Type 0 where
  pub spelled : (v : Value) → In v log → IsReadAgain (spell_value version) (parse_value version) v
  pub strings : (x : List ℕ) → In x (strings_from version (digest []) log) → In x all
